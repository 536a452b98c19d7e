pub mod View
pub mod Telling
