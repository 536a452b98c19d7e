pub mod Used
pub mod Losing
pub mod Forgetting
pub mod Standing
