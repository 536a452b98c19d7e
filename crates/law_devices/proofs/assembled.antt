pub mod Settling
pub mod Sizes
pub mod Alone
pub mod Own
pub mod Ends
pub mod Others
mod Spelled
pub mod Writing
pub mod Starting
