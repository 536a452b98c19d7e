pub mod Reasons
pub mod Walks
pub mod Privacy
pub mod Keeping
pub mod Own
pub mod Marks
