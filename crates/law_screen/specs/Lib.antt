pub mod Painted
pub mod Trees
