pub mod Counts
pub mod Freed
pub mod Pending
pub mod Room
pub mod Tally
pub mod Windows
