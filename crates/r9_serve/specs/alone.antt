pub mod Answers
pub mod Faults
pub mod Watched
pub mod Texts
