pub mod looked
pub mod used
