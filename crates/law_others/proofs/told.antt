pub mod Standing
pub mod Windows
pub mod Acts
