pub mod console
pub mod frame
pub mod mouse
pub mod tree
pub mod wctl
pub mod wire
