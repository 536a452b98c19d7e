pub mod Passes
pub mod Sessions
pub mod Steps
pub mod Calls
