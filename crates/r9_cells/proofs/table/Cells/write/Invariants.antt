use Rattle.std.proofs.Common.{◌≡◌, ◌+◌, ◌≢◌, ◌<◌, ◌≤◌, ◌-◌, ℕ, get_or, length}
use Rattle.r9_plane.specs.Pixels.{along}
use Rattle.r9_store.specs.Tiles.{spare}
use Rattle.r9_cells.specs.Rows.{cell_place, CellPlace}
use Rattle.r9_cells.specs.Cells.{all_rows, place_pixel, tiles_in}
use Rattle.r9_cells.proofs.table.Cells.write.Given as goal

abbrev pub invariant-loop-done : goal.invariant-loop-done
invariant-loop-done g l = record {
  within : l.done ≤ length l.raws;
  put : (k : ℕ) → k < l.done → place_pixel l.self (cell_place l.i l.r (along l.at k)) ≡ get_or l.raws k 0;
  others : (place : CellPlace) → ((k : ℕ) → k < l.done → place ≢ cell_place l.i l.r (along l.at k)) → place_pixel l.self place ≡ place_pixel l.fn.self place;
  rows : all_rows l.self ≡ all_rows l.fn.self;
  spare : spare (tiles_in l.self) ≡ spare (tiles_in l.fn.self);
  steps : l.steps ≡ l.fn.steps + l.done;
}

abbrev pub decreases-loop-done : goal.decreases-loop-done
decreases-loop-done g l = length l.raws - l.done
