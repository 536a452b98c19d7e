pub mod Lengths
pub mod Given
pub mod Sessions
pub mod Late
pub mod Histories
