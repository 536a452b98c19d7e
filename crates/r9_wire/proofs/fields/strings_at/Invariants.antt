use Rattle.model_files.specs.wire.Reading.{string_at, so_many}
use Rattle.r9_wire.proofs.Strings.{IsSoFar}
use Rattle.r9_wire.proofs.fields.strings_at.Given as goal

abbrev pub invariant-loop-place : goal.invariant-loop-place
invariant-loop-place l = IsSoFar l.names l.count l._place l.rest (so_many string_at l.count l.bytes)
