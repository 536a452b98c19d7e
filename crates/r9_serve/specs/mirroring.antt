pub mod Faults
pub mod Laws
pub mod Mirrored
pub mod View
