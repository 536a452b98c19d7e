pub mod Modes
pub mod Opening
pub mod Event
pub mod All
