mod Counting
pub mod Characters
pub mod Owners
