pub mod Depths
pub mod Messages
pub mod Orders
pub mod Keeping
