pub mod Fits
pub mod Moving
pub mod Typing
