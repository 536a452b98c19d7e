pub mod Lines
pub mod Shifts
pub mod Serving
pub mod Steps
