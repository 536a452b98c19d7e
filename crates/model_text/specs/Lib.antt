pub mod map
pub mod text
