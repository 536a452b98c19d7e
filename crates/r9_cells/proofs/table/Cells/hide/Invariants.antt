use Rattle.std.proofs.Common.{◌≡◌, ◌+◌, ◌≢◌, ◌<◌, ◌≤◌, ◌-◌, ◌^◌, ℕ}
use Rattle.model_pixel.specs.Channels.{depth}
use Rattle.r9_plane.specs.Pixels.{along, chan_of, pixel_at}
use Rattle.r9_store.specs.Tiles.{spare}
use Rattle.r9_cells.specs.Rows.{cell_place, CellPlace}
use Rattle.r9_cells.specs.Cells.{all_rows, place_pixel, tiles_in}
use Rattle.r9_cells.proofs.table.Cells.hide.Given as goal

abbrev pub invariant-loop-done : goal.invariant-loop-done
invariant-loop-done g l = record {
  within : l.done ≤ l.n;
  put : (k : ℕ) → k < l.done → place_pixel l.self (cell_place l.i l.r (along l.at k)) ≡ pixel_at l.plane (along l.from k);
  below : (k : ℕ) → k < l.done → pixel_at l.plane (along l.from k) < 2 ^ depth (chan_of l.plane);
  others : (place : CellPlace) → ((k : ℕ) → k < l.done → place ≢ cell_place l.i l.r (along l.at k)) → place_pixel l.self place ≡ place_pixel l.fn.self place;
  rows : all_rows l.self ≡ all_rows l.fn.self;
  spare : spare (tiles_in l.self) ≡ spare (tiles_in l.fn.self);
  steps : l.steps ≡ l.fn.steps + l.done;
}

abbrev pub decreases-loop-done : goal.decreases-loop-done
decreases-loop-done g l = l.n - l.done
