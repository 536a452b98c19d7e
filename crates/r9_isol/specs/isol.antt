pub mod Words
pub mod World
pub mod Laws
