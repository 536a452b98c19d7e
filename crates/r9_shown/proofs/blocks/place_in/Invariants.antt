use Rattle.std.proofs.Common.{◌≡◌, ◌-◌, ◌<◌, ◌≤◌, ℕ, false, get_or, length}
use Rattle.std.specs.Prelude.{◌==◌}
use Rattle.model_forest.specs.declared.Window.{Window}
use Rattle.r9_shown.proofs.blocks.place_in.Given as goal

abbrev pub invariant-loop-at : goal.invariant-loop-at
invariant-loop-at l = record {
  within : l.at ≤ length l.windows;
  off : (k : ℕ) (d : Window) → k < l.at → ((get_or l.windows k d).image == l.i) ≡ false;
}

abbrev pub decreases-loop-at : goal.decreases-loop-at
decreases-loop-at l = length l.windows - l.at

abbrev pub invariant-loop-at-2 : goal.invariant-loop-at-2
invariant-loop-at-2 l = record {
  within : l.at ≤ length l.windows;
  off : (k : ℕ) (d : Window) → k < l.at → ((get_or l.windows k d).image == l.i) ≡ false;
}

abbrev pub decreases-loop-at-2 : goal.decreases-loop-at-2
decreases-loop-at-2 l = length l.windows - l.at
