pub mod exchanged
pub mod resize
