pub mod draw
pub mod messages
pub mod orders
pub mod strings
