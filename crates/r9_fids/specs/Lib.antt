pub mod Fids
pub mod Lending
