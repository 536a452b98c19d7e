pub mod Acts
pub mod Histories
