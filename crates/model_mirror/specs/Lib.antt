pub mod Shown
pub mod Sent
pub mod Frame
pub mod Pictures
pub mod Mirror
