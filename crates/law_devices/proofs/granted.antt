pub mod Untying
pub mod Freed
pub mod Dropping
pub mod Granting
pub mod Naming
pub mod Images
