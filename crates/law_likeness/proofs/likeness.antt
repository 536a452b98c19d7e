pub mod Shapes
pub mod Looking
pub mod Ids
pub mod Acts
pub mod Strings
