pub mod cost
pub mod draw
pub mod imgfile
pub mod looked
