pub mod fills
pub mod put
