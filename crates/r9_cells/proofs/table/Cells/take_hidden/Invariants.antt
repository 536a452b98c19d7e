use Rattle.std.proofs.Common.{◌≡◌, ◌+◌, ◌<◌, ◌≤◌, ◌-◌, ℕ, true, drop, get_or, length}
use Rattle.std.specs.Prelude.{◌||◌, is_some}
use Rattle.std.specs.List.{list_any}
use Rattle.r9_geom.specs.declared.Point.{Point}
use Rattle.r9_store.specs.Tiles.{spare}
use Rattle.r9_locate.specs.locate.Table.{shape}
use Rattle.r9_cells.specs.Rows.{cell_at, row_at}
use Rattle.r9_cells.specs.Cells.{all_rows, cell_pixel, tiles_in}
use Rattle.r9_cells.specs.Fitting.{hides_of, wanted_all}
use Rattle.r9_cells.proofs.Listed.{no_window}
use Rattle.r9_cells.proofs.table.Cells.take_hidden.Given as goal

abbrev pub invariant-loop-at : goal.invariant-loop-at
invariant-loop-at l = record {
  past : l.from ≤ l.at;
  room : wanted_all (all_rows l.fn.self) (shape l.lists) l.p l.windows (drop l.at l.windows) ≤ spare (tiles_in l.self);
  spent : spare (tiles_in l.fn.self) + wanted_all (all_rows l.fn.self) (shape l.lists) l.p l.windows (drop l.at l.windows) ≤ spare (tiles_in l.self) + wanted_all (all_rows l.fn.self) (shape l.lists) l.p l.windows l.windows;
  pixels : (j n : ℕ) (x : Point) → cell_pixel l.self j n x ≡ cell_pixel l.fn.self j n x;
  grows : (j n : ℕ) → is_some (cell_at (all_rows l.fn.self) j n) ≡ true → is_some (cell_at (all_rows l.self) j n) ≡ true;
  later : (k n : ℕ) → l.at ≤ k → k < length l.windows → is_some (cell_at (all_rows l.self) (get_or l.windows k no_window).image n) ≡ is_some (cell_at (all_rows l.fn.self) (get_or l.windows k no_window).image n);
  taken : (j n : ℕ) → (is_some (cell_at (all_rows l.self) j n) || list_any (hides_of (shape l.lists) l.p l.windows j n) (drop l.at l.windows)) ≡ (is_some (cell_at (all_rows l.fn.self) j n) || list_any (hides_of (shape l.lists) l.p l.windows j n) l.windows);
  rows : length (all_rows l.self) ≡ length (all_rows l.fn.self);
  lengths : (j : ℕ) → length (row_at (all_rows l.self) j) ≡ length (row_at (all_rows l.fn.self) j);
}

abbrev pub decreases-loop-at : goal.decreases-loop-at
decreases-loop-at l = length l.windows - l.at
