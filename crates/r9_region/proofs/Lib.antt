pub mod Narrowed
pub mod Points
pub mod Counted
