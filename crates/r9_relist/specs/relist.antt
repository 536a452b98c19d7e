pub mod Leaving
pub mod Relisting
