pub mod followed
pub mod near
