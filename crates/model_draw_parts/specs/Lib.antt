pub mod dmsg
pub mod fonts
pub mod images
