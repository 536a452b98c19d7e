pub mod recorder
pub mod service
