mod Fine
mod Orders
pub mod Carried
