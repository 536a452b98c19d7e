pub mod Spelled
pub mod Placing
pub mod Filed
pub mod Standing
pub mod Moving
pub mod Deleting
pub mod Making
pub mod Names
