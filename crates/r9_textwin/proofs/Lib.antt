mod Pages
mod Lines
mod Cuts
pub mod Codes
