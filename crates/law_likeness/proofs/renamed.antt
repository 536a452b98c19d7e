pub mod Views
pub mod Changes
pub mod Drawing
pub mod Lists
pub mod Making
pub mod Going
