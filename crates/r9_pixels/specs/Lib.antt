pub mod Owns
pub mod Kept
pub mod Carried
pub mod Places
