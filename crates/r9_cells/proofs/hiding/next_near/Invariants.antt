use Rattle.std.proofs.Common.{◌≡◌, ◌<◌, ◌≤◌, ℕ, true, get_or, length}
use Rattle.r9_geom.specs.Geometry.{is_empty, meet}
use Rattle.model_forest.specs.declared.Window.{Window}
use Rattle.r9_cells.proofs.hiding.next_near.Given as goal

abbrev pub invariant-loop-at : goal.invariant-loop-at
invariant-loop-at l = record {
  off : (k : ℕ) (d : Window) → l.from ≤ k → k < l.at → k < length l.windows → is_empty (meet (get_or l.windows k d).place l.near) ≡ true;
}
