pub mod View
pub mod Head
pub mod Listed
