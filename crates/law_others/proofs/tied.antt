pub mod Orders
pub mod Messages
