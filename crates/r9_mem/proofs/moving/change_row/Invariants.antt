use Rattle.std.proofs.Common.{◌≡◌, ℕ, ◌-◌, ◌<◌, ◌≤◌, length, get_or}
use Rattle.model_pixel.specs.Channels.{expand, pack}
use Rattle.r9_mem.proofs.moving.change_row.Given as goal

abbrev pub invariant-loop-at : goal.invariant-loop-at
invariant-loop-at l = record {
  inside : l.at ≤ length l.raws;
  written : (k : ℕ) → k < l.at → get_or l.raws k 0 ≡ pack l.dst (expand l.src (get_or l.fn.raws k 0));
  left : (k : ℕ) → l.at ≤ k → get_or l.raws k 0 ≡ get_or l.fn.raws k 0;
}

abbrev pub decreases-loop-at : goal.decreases-loop-at
decreases-loop-at l = length l.initial.raws - l.at
