pub mod Own
pub mod Following
pub mod Uncounted
