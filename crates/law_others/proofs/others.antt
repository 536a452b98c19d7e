pub mod Adding
pub mod Messages
pub mod Writes
pub mod Likeness
pub mod Orders
pub mod Others
pub mod Display
