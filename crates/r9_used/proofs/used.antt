mod First
pub mod Reached
