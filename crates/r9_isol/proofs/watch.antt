mod Judging
pub mod Histories
