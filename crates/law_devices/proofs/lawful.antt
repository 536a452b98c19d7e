mod Lone
mod Coming
mod Replacing
mod Dropping
pub mod Laws
