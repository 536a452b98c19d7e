pub mod bands
pub mod piloted
pub mod ready
pub mod steered
