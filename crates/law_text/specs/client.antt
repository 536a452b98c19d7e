pub mod Saying
pub mod Files
pub mod Pointing
