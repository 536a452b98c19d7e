pub mod Counting
pub mod Cursor
pub mod Pictures
pub mod Entries
pub mod Putting
pub mod Lengths
pub mod Reading
pub mod Faults
