pub mod Freeing
pub mod Adding
pub mod Ordering
pub mod Messages
