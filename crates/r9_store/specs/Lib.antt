pub mod Sound
pub mod Tiles
