pub mod isol
pub mod lone
pub mod watch
