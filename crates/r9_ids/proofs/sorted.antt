pub mod Order
pub mod Ascending
pub mod Laws
pub mod Members
mod Pieced
mod Inside
mod Among
mod Whole
