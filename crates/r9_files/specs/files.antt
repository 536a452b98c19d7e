pub mod FileView
pub mod Reads
