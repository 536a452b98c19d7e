pub mod Naming
pub mod Opened
pub mod Inks
pub mod Shading
pub mod Freed
pub mod Written
