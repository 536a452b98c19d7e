pub mod MarkLemmas
pub mod CountLemmas
