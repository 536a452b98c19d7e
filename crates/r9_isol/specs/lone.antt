pub mod Settling
pub mod LoneView
