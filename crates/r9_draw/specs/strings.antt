pub mod Drawings
pub mod Ready
