pub mod Rows
pub mod Pictures
pub mod Lists
pub mod Entries
