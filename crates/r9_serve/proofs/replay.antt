pub mod Taking
pub mod Replaying
pub mod Lines
pub mod Screens
