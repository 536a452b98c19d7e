pub mod Absent
pub mod Unbegun
pub mod Ended
pub mod Living
