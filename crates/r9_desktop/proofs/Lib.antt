mod Maps
mod Loops
mod OfRio
mod Placing
mod Viewed
mod Display
mod Panes
mod Sides
mod Marks
pub mod Sending
