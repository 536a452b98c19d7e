pub mod client
pub mod page
pub mod typed
