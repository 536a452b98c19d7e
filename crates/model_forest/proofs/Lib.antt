pub mod Area
pub mod Views
pub mod Changes
pub mod Releasing
mod Rows
pub mod Raws
pub mod Sound
pub mod Stacks
pub mod Uncovers
pub mod Listed
pub mod Gone
pub mod Windows
pub mod Placed
pub mod Steps
pub mod Lives
