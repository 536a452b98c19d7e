pub mod Keeping
pub mod Display
pub mod Costs
