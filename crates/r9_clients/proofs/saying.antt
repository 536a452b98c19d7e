pub mod Said
pub mod Fits
