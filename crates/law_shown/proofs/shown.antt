pub mod Frames
pub mod Tests
pub mod Spare
pub mod Numbers
pub mod Following
pub mod Sizes
