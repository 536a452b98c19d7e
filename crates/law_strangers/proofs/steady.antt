pub mod Messages
pub mod Desktops
