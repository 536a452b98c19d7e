pub mod Typing
pub mod Shown
