pub mod Kept
pub mod Spare
pub mod World
pub mod Live
pub mod Gone
pub use Rattle.r9_layers.specs.Forest
pub use Rattle.r9_layers.specs.Marks
pub use Rattle.r9_layers.specs.Told
