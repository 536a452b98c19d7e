pub mod Furnished
pub mod Sides
pub mod Leading
pub mod Desktops
pub mod Answers
pub mod Between
pub mod Histories
