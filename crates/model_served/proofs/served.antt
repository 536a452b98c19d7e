pub mod Pushed
pub mod Rolls
pub mod Sizes
pub mod Seen
pub mod Kept
pub mod Silent
pub mod Laws
mod Rows
