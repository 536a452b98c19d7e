pub mod Typed
pub mod Record
