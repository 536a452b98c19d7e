mod States
mod Posts
mod Halls
mod Acting
mod Worlds
mod Waits
mod Cuts
pub mod Stored
mod Watched
mod Displays
pub use Rattle.r9_desktop.proofs.Sending
