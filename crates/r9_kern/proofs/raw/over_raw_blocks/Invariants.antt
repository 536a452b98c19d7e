use Rattle.std.proofs.Common.{◌≡◌, ℕ, ◌%◌, ◌<◌, ◌≤◌, length, get_or, ◌-◌}
use Rattle.r9_kern.specs.Over.{over_raw}
use Rattle.r9_kern.specs.Layouts.{chan_of}
use Rattle.r9_kern.proofs.raw.over_raw_blocks.Given as goal

abbrev pub invariant-loop-at : goal.invariant-loop-at
invariant-loop-at l = record {
  inside : l.at ≤ length l.d;
  whole : l.at % 4 ≡ 0;
  written : (k : ℕ) → k < l.at → get_or l.d k 0 ≡ over_raw (chan_of l.dst) (chan_of l.src) (get_or l.s k 0) (get_or l.fn.d k 0);
  left : (k : ℕ) → l.at ≤ k → get_or l.d k 0 ≡ get_or l.fn.d k 0;
}

abbrev pub decreases-loop-at : goal.decreases-loop-at
decreases-loop-at l = length l.d - l.at
