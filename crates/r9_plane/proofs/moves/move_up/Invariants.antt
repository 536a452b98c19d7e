use Rattle.std.proofs.Common.{◌+◌, ◌≤◌, ◌-◌}
use Rattle.std.specs.Int.Bits.{bit_and}
use Rattle.model_pixel.specs.Rows.{raw_at}
use Rattle.r9_plane.proofs.RunLemmas.{Copied}
use Rattle.r9_plane.proofs.moves.move_up.Given as goal

abbrev pub invariant-loop-left : goal.invariant-loop-left
invariant-loop-left l = record {
  within : l.left ≤ l.count;
  copied : Copied l.depth (l.first + l.left) (l.count - l.left) (λ i. bit_and (raw_at l.depth l.fn.bytes (l.from_first + (l.left + i))) l.bits) l.fn.bytes l.bytes;
}

abbrev pub decreases-loop-left : goal.decreases-loop-left
decreases-loop-left l = l.left
