use Rattle.std.proofs.Common.{◌≡◌, ℕ, ◌-◌, ◌<◌, ◌≤◌, length, get_or}
use Rattle.model_pixel.specs.Composition.{composed_raw}
use Rattle.r9_chan.specs.Op.{number}
use Rattle.r9_mem.proofs.single.fill_blocks.Given as goal

abbrev pub invariant-loop-at : goal.invariant-loop-at
invariant-loop-at l = record {
  inside : l.at ≤ length l.d;
  written : (k : ℕ) → k < l.at → get_or l.d k 0 ≡ composed_raw l.dst l.src l.grey (number l.op) l.s l.value (get_or l.fn.d k 0);
  left : (k : ℕ) → l.at ≤ k → get_or l.d k 0 ≡ get_or l.fn.d k 0;
}

abbrev pub decreases-loop-at : goal.decreases-loop-at
decreases-loop-at l = length l.initial.d - l.at
