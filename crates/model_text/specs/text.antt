pub mod Number
pub mod Hex
pub mod Reading
pub mod Field
pub mod Word
pub mod Outcome
pub mod Map
