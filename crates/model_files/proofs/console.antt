pub mod Bounds
pub mod Ends
pub mod Keeping
mod Rows
