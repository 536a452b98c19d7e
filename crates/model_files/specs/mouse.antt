pub mod Pointer
pub mod Queue
pub mod Happening
