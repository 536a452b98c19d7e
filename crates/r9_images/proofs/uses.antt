pub mod Counts
pub mod Falling
pub mod Listed
pub mod Making
pub mod Parts
pub mod Rooms
pub mod Slots
pub mod Used
