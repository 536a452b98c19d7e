pub mod Messages
pub mod Files
pub mod Pointing
pub mod Saying
