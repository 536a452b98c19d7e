pub mod Acts
pub mod Freeing
pub mod Messages
pub mod Rooting
