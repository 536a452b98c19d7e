mod CoveringLemmas
mod FieldLemmas
mod MovingLemmas
mod PackingLemmas
mod Parts
