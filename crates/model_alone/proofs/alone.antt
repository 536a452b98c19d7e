pub mod Unbegun
pub mod Histories
mod Rows
