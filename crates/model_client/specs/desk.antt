pub mod Table
pub mod Asked
pub mod Spelled
pub mod Pilot
