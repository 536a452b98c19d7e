pub mod Wrap
pub mod Pieces
pub mod Moves
pub mod Layout
