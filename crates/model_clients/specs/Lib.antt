pub mod bands
pub mod client
pub mod page
pub mod piloted
pub mod typed
