use Rattle.std.proofs.Common.{◌≡◌, ℕ, ◌<◌, ◌≤◌, get_or}
use Rattle.model_pixel.specs.Channels.{colour_of}
use Rattle.model_pixel.specs.Composition.{comp}
use Rattle.r9_chan.specs.Op.{number}
use Rattle.r9_kern.proofs.row.comp_row.Given as goal

abbrev pub invariant-loop-i : goal.invariant-loop-i
invariant-loop-i l = record {
  written : (k : ℕ) → k < l.i → colour_of (get_or l.d k 0) ≡ comp (number l.op) (colour_of (get_or l.s k 0)) (get_or l.m k 0) (colour_of (get_or l.fn.d k 0));
  left : (k : ℕ) → l.i ≤ k → get_or l.d k 0 ≡ get_or l.fn.d k 0;
}
