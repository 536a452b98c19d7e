pub mod Starting
pub mod Ordering
pub mod Replacing
pub mod Replaced
pub mod Carrying
