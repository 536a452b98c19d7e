pub mod Cells
pub mod Cost
