pub mod Along
pub mod Hiding
pub mod Shapes
