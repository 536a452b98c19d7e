pub mod Inked
pub mod Carried
