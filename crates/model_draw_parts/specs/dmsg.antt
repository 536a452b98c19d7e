pub mod Message
pub mod Reading
