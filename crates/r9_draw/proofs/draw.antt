pub mod Refusals
pub mod Messages
pub mod Living
pub mod Writing
pub mod Costs
pub mod First
pub mod Fields
pub mod Pictures
