pub mod Users
pub mod Bounds
pub mod Worlds
pub mod Emptied
