pub mod Hosts
pub mod Looking
pub mod Telling
