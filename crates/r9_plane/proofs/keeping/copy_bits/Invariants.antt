use Rattle.std.proofs.Common.{◌+◌}
use Rattle.std.specs.Int.Bits.{bit_and}
use Rattle.model_pixel.specs.Rows.{raw_at}
use Rattle.r9_plane.proofs.RunLemmas.{Copied}
use Rattle.r9_plane.proofs.keeping.copy_bits.Given as goal

abbrev pub invariant-loop-i : goal.invariant-loop-i
invariant-loop-i g l = Copied g.row.DEPTH l.first l.i (λ j. bit_and (raw_at g.row.DEPTH l.from (l.from_first + j)) l.bits) l.fn.bytes l.bytes
