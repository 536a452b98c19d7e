pub mod Blocks
pub mod Shown
