pub mod Areas
pub mod Moving
pub mod Changing
pub mod Placing
pub mod Stacks
pub mod Showing
pub mod Giving
