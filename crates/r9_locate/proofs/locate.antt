pub mod Rowed
pub mod Slots
pub mod Locating
pub mod Apart
pub mod Parts
pub mod Clips
