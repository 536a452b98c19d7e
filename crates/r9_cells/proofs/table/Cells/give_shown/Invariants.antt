use Rattle.std.proofs.Common.{◌≡◌, ◌≤◌, ◌-◌, ℕ, false, drop, length}
use Rattle.std.specs.Prelude.{◌&&◌, not, is_some, if◌then◌else◌}
use Rattle.std.specs.List.{list_any}
use Rattle.r9_geom.specs.declared.Point.{Point}
use Rattle.r9_store.specs.Tiles.{spare}
use Rattle.r9_locate.specs.locate.Table.{shape}
use Rattle.r9_cells.specs.Rows.{cell_at, row_at}
use Rattle.r9_cells.specs.Cells.{all_rows, cell_pixel, tiles_in}
use Rattle.r9_cells.specs.Fitting.{shows_of}
use Rattle.r9_cells.proofs.table.Cells.give_shown.Given as goal

abbrev pub invariant-loop-at : goal.invariant-loop-at
invariant-loop-at l = record {
  past : l.from ≤ l.at;
  pixels : (j n : ℕ) (x : Point) → cell_pixel l.self j n x ≡ (if is_some (cell_at (all_rows l.self) j n) then cell_pixel l.fn.self j n x else 0);
  more : spare (tiles_in l.fn.self) ≤ spare (tiles_in l.self);
  given : (j n : ℕ) → (not (list_any (shows_of (shape l.lists) l.p l.windows j n) (drop l.at l.windows)) && is_some (cell_at (all_rows l.self) j n)) ≡ (not (list_any (shows_of (shape l.lists) l.p l.windows j n) l.windows) && is_some (cell_at (all_rows l.fn.self) j n));
  fewer : (j n : ℕ) → is_some (cell_at (all_rows l.fn.self) j n) ≡ false → is_some (cell_at (all_rows l.self) j n) ≡ false;
  rows : length (all_rows l.self) ≡ length (all_rows l.fn.self);
  lengths : (j : ℕ) → length (row_at (all_rows l.self) j) ≡ length (row_at (all_rows l.fn.self) j);
}

abbrev pub decreases-loop-at : goal.decreases-loop-at
decreases-loop-at l = length l.windows - l.at
