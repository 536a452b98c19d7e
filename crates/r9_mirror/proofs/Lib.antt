pub mod Cuts
pub mod Numbers
pub mod Within
pub mod Screens
pub mod Steps
