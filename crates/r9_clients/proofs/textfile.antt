pub mod Sizes
pub mod Limit
mod Rows
