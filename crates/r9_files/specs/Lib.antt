pub mod access
pub mod around
pub mod files
