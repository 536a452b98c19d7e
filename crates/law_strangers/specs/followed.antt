pub mod Devices
pub mod Following
