use Rattle.std.proofs.Common.{◌≡◌, ℕ, ◌<◌, ◌≤◌, get_or}
use Rattle.std.specs.Int.Bits.{bit_and}
use Rattle.r9_mem.proofs.moving.keep.Given as goal

abbrev pub invariant-loop-i : goal.invariant-loop-i
invariant-loop-i l = record {
  kept : (k : ℕ) → k < l.i → get_or l.raws k 0 ≡ bit_and (get_or l.fn.raws k 0) l.bits;
  left : (k : ℕ) → l.i ≤ k → get_or l.raws k 0 ≡ get_or l.fn.raws k 0;
}
