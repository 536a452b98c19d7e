pub mod Digits
pub mod Fitting
pub mod Header
pub mod Reading
pub mod Rest
