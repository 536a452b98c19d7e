pub mod Walking
pub mod Acts
