pub mod Clients
pub mod Counted
pub mod Fonts
pub mod Rows
