pub mod Event
pub mod All
pub mod Opening
