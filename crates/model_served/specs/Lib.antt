pub mod served
pub mod session
