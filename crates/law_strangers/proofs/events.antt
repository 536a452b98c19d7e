pub mod Messages
pub mod Strangers
pub mod Leaving
pub mod Opening
