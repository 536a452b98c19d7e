pub mod Late
pub mod Others
pub mod Strangers
