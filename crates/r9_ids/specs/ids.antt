pub mod ImageIds
pub mod Own
pub mod Rows
pub mod ScreenIds
