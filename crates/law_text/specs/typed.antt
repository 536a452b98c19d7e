pub mod Typing
pub mod Making
pub mod Shown
