pub mod Sparing
pub mod Marking
