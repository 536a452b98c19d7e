pub mod Covering
pub mod Fields
pub mod Kept
pub mod Packing
pub mod Rows
pub mod Through
