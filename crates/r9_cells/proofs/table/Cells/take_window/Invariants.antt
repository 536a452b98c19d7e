use Rattle.std.proofs.Common.{◌≡◌, ◌+◌, ℕ, length}
use Rattle.std.specs.Prelude.{◌==◌, ◌&&◌, ◌||◌, nat_lt, is_some}
use Rattle.r9_geom.specs.declared.Point.{Point}
use Rattle.r9_store.specs.Tiles.{spare}
use Rattle.model_kept.specs.Cells.{cell_count}
use Rattle.r9_cells.specs.Rows.{cell_at, row_at}
use Rattle.r9_cells.specs.Cells.{all_rows, cell_pixel, tiles_in}
use Rattle.r9_cells.specs.Fitting.{hides_cell, wanted, wants}
use Rattle.r9_cells.specs.Walking.{IsAtCell}
use Rattle.r9_cells.proofs.Steps.{rest}
use Rattle.r9_cells.proofs.table.Cells.take_window.Given as goal

abbrev pub invariant-loop-k : goal.invariant-loop-k
invariant-loop-k l = record {
  at : IsAtCell l.walk l.r l.w.place.min l.k;
  pixels : (j n : ℕ) (p : Point) → cell_pixel l.self j n p ≡ cell_pixel l.fn.self j n p;
  spare : spare (tiles_in l.self) + wanted (all_rows l.fn.self) l.below l.windows l.i l.r ≡ spare (tiles_in l.fn.self) + rest (wants (all_rows l.fn.self) l.below l.windows l.i l.r) (cell_count l.r) l.k;
  taken : (j n : ℕ) → is_some (cell_at (all_rows l.self) j n) ≡ (((j == l.i) && (nat_lt n l.k && hides_cell l.below l.windows l.i l.r n)) || is_some (cell_at (all_rows l.fn.self) j n));
  rows : length (all_rows l.self) ≡ length (all_rows l.fn.self);
  lengths : (j : ℕ) → length (row_at (all_rows l.self) j) ≡ length (row_at (all_rows l.fn.self) j);
}
