pub mod Below
pub mod InPlace
pub mod Replaced
