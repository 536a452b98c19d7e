pub mod Stages
pub mod Freeing
pub mod Pairs
pub mod Leaving
pub mod Acting
pub mod Writing
