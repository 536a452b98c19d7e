mod Rows
mod RioLaws
mod Lookups
mod Refusals
mod Puts
mod Tables
mod Inputs
mod Makings
mod Movings
mod Goings
mod Sizes
pub mod Paths
pub mod Listing
pub mod Soundness
mod Notes
pub mod Turns
pub mod Orders
pub mod Lives
