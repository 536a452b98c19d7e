pub mod Content
pub mod Fills
pub mod Gathered
