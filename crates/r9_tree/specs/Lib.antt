pub mod View
pub mod Stats
pub mod Attached
