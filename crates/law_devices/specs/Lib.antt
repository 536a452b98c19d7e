pub mod assembled
pub mod beside
pub mod grounded
pub mod holding
pub mod sides
