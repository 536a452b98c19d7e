pub mod apart
pub mod managed
pub mod orders
pub mod others
pub mod sized
pub mod told
