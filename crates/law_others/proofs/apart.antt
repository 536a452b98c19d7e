pub mod Lists
pub mod Books
pub mod Numbering
pub mod Releasing
pub mod Worlds
pub mod Devices
pub mod Looking
