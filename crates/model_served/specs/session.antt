pub mod Server
pub mod Acts
