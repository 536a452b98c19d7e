pub mod attend
pub mod workers
