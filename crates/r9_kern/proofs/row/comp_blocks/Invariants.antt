use Rattle.std.proofs.Common.{◌≡◌, ℕ, ◌%◌, ◌<◌, ◌≤◌, length, get_or, ◌-◌}
use Rattle.model_pixel.specs.Channels.{colour_of}
use Rattle.model_pixel.specs.Composition.{comp}
use Rattle.r9_kern.proofs.row.comp_blocks.Given as goal

abbrev pub invariant-loop-d : goal.invariant-loop-d
invariant-loop-d g l = record {
  inside : l.at ≤ length l.d;
  whole : l.at % 4 ≡ 0;
  written : (k : ℕ) → k < l.at → colour_of (get_or l.d k 0) ≡ comp g.row.OP (colour_of (get_or l.s k 0)) (get_or l.m k 0) (colour_of (get_or l.fn.d k 0));
  left : (k : ℕ) → l.at ≤ k → get_or l.d k 0 ≡ get_or l.fn.d k 0;
}

abbrev pub decreases-loop-d : goal.decreases-loop-d
decreases-loop-d g l = length l.d - l.at
