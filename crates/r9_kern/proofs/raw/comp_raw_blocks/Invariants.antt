use Rattle.std.proofs.Common.{◌≡◌, ℕ, ◌%◌, ◌<◌, ◌≤◌, length, get_or, ◌-◌}
use Rattle.model_pixel.specs.Composition.{composed_raw}
use Rattle.r9_kern.specs.Layouts.{chan_of, mask_chan_of}
use Rattle.r9_kern.proofs.raw.comp_raw_blocks.Given as goal

abbrev pub invariant-loop-d : goal.invariant-loop-d
invariant-loop-d g l = record {
  inside : l.at ≤ length l.d;
  whole : l.at % 4 ≡ 0;
  written : (k : ℕ) → k < l.at → get_or l.d k 0 ≡ composed_raw (chan_of l.dst) (chan_of l.src) (mask_chan_of l.mask) g.row.OP (get_or l.s k 0) (get_or l.m k 0) (get_or l.fn.d k 0);
  left : (k : ℕ) → l.at ≤ k → get_or l.d k 0 ≡ get_or l.fn.d k 0;
}

abbrev pub decreases-loop-d : goal.decreases-loop-d
decreases-loop-d g l = length l.d - l.at
