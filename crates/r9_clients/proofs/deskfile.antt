mod Told
pub mod Limit
mod Rows
