pub mod Places
pub mod SessionView
pub mod Reads
pub mod Answers
pub mod Clients
pub mod Roots
pub mod Telling
pub mod Reached
