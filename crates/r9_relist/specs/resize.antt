pub mod Sizes
pub mod Moves
