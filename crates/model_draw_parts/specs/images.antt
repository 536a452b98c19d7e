pub mod Book
pub mod Release
pub mod Ties
