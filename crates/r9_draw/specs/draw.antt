pub mod World
pub mod Refused
pub mod Steps
pub mod Described
pub mod Shown
