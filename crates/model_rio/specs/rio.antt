pub mod Table
pub mod Act
pub mod Step
pub mod Moving
pub mod Routing
pub mod Rio
pub mod Sound
pub mod Notes
