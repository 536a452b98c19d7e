use Rattle.std.proofs.Common.{◌+◌, ◌≤◌, ◌-◌}
use Rattle.std.specs.Int.Bits.{bit_and}
use Rattle.model_pixel.specs.Rows.{raw_at}
use Rattle.r9_plane.proofs.RunLemmas.{Copied}
use Rattle.r9_plane.proofs.moves.move_down.Given as goal

abbrev pub invariant-loop-done : goal.invariant-loop-done
invariant-loop-done l = record {
  within : l.done ≤ l.count;
  copied : Copied l.depth l.first l.done (λ i. bit_and (raw_at l.depth l.fn.bytes (l.from_first + i)) l.bits) l.fn.bytes l.bytes;
}

abbrev pub decreases-loop-done : goal.decreases-loop-done
decreases-loop-done l = l.count - l.done
