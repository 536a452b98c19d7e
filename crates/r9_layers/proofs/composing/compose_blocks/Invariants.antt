use Rattle.std.proofs.Common.{◌≡◌, ◌<◌, ◌≤◌, ◌-◌, ℕ, get_or, length}
use Rattle.r9_plane.specs.Pixels.{along}
use Rattle.r9_layers.specs.Area.{drawn_on}
use Rattle.r9_forest.specs.Images.{world}
use Rattle.r9_layers.proofs.composing.compose_blocks.Given as goal

abbrev pub invariant-loop-done : goal.invariant-loop-done
invariant-loop-done l = record {
  within : l.done ≤ length l.row;
  drawn : (k : ℕ) → k < l.done → get_or l.row k 0 ≡ drawn_on (world l.images) l.task (along l.at k) (get_or l.fn.row k 0);
  left : (k : ℕ) → l.done ≤ k → get_or l.row k 0 ≡ get_or l.fn.row k 0;
}

abbrev pub decreases-loop-done : goal.decreases-loop-done
decreases-loop-done l = length l.initial.row - l.done
