pub mod Console
pub mod Happening
