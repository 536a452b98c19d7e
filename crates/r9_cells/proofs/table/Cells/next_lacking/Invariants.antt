use Rattle.std.proofs.Common.{◌≡◌, ◌-◌, ◌<◌, ◌≤◌, ℕ, List, false, get_or, length}
use Rattle.std.specs.Prelude.{◌&&◌, is_none}
use Rattle.std.specs.List.{list_any}
use Rattle.r9_geom.specs.declared.Rect.{Rect}
use Rattle.model_forest.specs.declared.Window.{Window}
use Rattle.r9_cells.specs.Rows.{row_at}
use Rattle.r9_cells.specs.Cells.{all_rows}
use Rattle.r9_cells.specs.Fitting.{meets, IsSpan}
use Rattle.r9_cells.proofs.table.Cells.next_lacking.Given as goal

abbrev pub invariant-loop-at : goal.invariant-loop-at
invariant-loop-at l = record {
  least : l.from ≤ l.at;
  off : (areas : List Rect) → IsSpan l.near areas → (k : ℕ) (d : Window) → l.from ≤ k → k < l.at → k < length l.windows → (meets areas (get_or l.windows k d).place && list_any is_none (row_at (all_rows l.self) (get_or l.windows k d).image)) ≡ false;
}

abbrev pub decreases-loop-at : goal.decreases-loop-at
decreases-loop-at l = length l.windows - l.at
