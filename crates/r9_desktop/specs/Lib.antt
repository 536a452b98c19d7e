pub mod Marks
pub mod World
pub mod Words
pub mod Laws
