pub mod Forms
pub mod Grids
pub mod Putting
pub mod Shifting
pub mod Wholes
