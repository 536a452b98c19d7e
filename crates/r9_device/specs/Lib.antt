pub mod client
pub mod device
