pub mod Alike
pub mod Celled
pub mod Lost
pub mod Moved
pub mod Ones
pub mod Resized
pub mod Shapes
