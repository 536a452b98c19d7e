pub mod ids
pub mod screens
pub mod sorted
pub mod ties
