pub mod Noted
pub mod Stepping
pub mod Commands
pub mod Outsides
pub mod Answers
