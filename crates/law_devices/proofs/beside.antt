pub mod Beside
pub mod Rooting
pub mod Ordering
