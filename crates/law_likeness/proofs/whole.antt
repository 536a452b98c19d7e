pub mod Resting
pub mod Rising
pub mod Joining
pub mod Adding
pub mod Screening
pub mod Freeing
pub mod Messages
