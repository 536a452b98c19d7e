pub mod Rooms
pub mod Taken
