mod Finds
pub mod KindNumbers
mod Listed
mod Named
mod Placed
mod Put
pub mod Sized
