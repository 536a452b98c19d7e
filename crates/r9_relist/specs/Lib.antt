pub mod arrive
pub mod relist
pub mod resize
