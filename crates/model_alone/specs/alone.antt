pub mod Uses
pub mod Own
pub mod Lone
pub mod Isolated
