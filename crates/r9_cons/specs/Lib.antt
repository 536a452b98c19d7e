pub mod Line
pub mod Waiting
