pub mod Words
pub mod Sizes
pub mod Left
pub mod Shown
pub mod View
