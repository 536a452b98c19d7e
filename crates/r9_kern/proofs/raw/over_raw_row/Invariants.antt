use Rattle.std.proofs.Common.{◌≡◌, ℕ, ◌<◌, ◌≤◌, get_or}
use Rattle.r9_kern.specs.Layouts.{chan_of}
use Rattle.r9_kern.specs.Over.{over_raw}
use Rattle.r9_kern.proofs.raw.over_raw_row.Given as goal

abbrev pub invariant-loop-i : goal.invariant-loop-i
invariant-loop-i l = record {
  written : (k : ℕ) → k < l.i → get_or l.d k 0 ≡ over_raw (chan_of l.dst) (chan_of l.src) (get_or l.s k 0) (get_or l.fn.d k 0);
  left : (k : ℕ) → l.i ≤ k → get_or l.d k 0 ≡ get_or l.fn.d k 0;
}
