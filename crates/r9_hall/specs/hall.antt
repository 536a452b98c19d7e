pub mod StateView
pub mod Outboxes
pub mod HallView
pub mod Acts
pub mod WorldView
pub mod Settling
pub mod Watching
pub use Rattle.r9_desktop.specs.Marks
