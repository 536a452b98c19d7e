pub mod Lists
pub mod Places
pub mod Fair
pub mod Kept
