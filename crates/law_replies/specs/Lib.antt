pub mod Answers
pub mod Tags
