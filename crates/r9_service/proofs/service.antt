mod Lines
mod Doors
mod Ran
mod Outcomes
pub mod Whole
mod Fresh
mod Sending
