pub mod hall
pub mod seen
pub mod shared
