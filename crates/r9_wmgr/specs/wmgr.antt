pub mod Acts
pub mod Names
