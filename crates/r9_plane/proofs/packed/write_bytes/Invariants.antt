use Rattle.r9_plane.proofs.PackedLemmas.{Written}
use Rattle.r9_plane.proofs.packed.write_bytes.Given as goal

abbrev pub invariant-loop-i : goal.invariant-loop-i
invariant-loop-i l = Written l.fn.bytes l.bytes l.start l.i l.raw
