pub mod Picture
pub mod Lines
pub mod Frames
