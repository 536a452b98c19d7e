pub mod Trees
pub mod Relations
pub mod Files
pub mod Sessions
pub mod Keeping
