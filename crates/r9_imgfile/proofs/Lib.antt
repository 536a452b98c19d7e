pub mod Bands
pub mod FileLemmas
pub mod PartLemmas
