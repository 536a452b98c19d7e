mod Making
mod Inks
pub mod Opened
