pub mod Numbered
pub mod Table
