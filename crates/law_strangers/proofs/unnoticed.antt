pub mod Late
pub mod Messages
