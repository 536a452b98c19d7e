pub mod Small
pub mod Reach
pub mod Names
pub mod Values
pub mod Gather
pub mod Faults
