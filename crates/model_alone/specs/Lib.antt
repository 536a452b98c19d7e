pub mod alone
pub mod used
