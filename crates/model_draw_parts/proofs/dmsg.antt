pub mod Rest
mod Rows
