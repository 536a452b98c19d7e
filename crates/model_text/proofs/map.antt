pub mod Ascending
pub mod Keys
pub mod Maps
pub mod Positions
