pub mod fitting
pub mod shown
