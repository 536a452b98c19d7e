mod ByteLemmas
mod LaneLemmas
pub mod LayoutLemmas
mod OverLemmas
