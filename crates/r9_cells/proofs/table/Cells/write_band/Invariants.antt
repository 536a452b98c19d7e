use Rattle.std.proofs.Common.{◌≡◌, ◌*◌, ◌+◌, ◌-◌, ◌≤◌, get_or}
use Rattle.r9_geom.specs.Geometry.{height, width}
use Rattle.r9_plane.specs.Blocks.{number_in}
use Rattle.r9_store.specs.Tiles.{spare}
use Rattle.r9_cells.specs.Cells.{all_rows, place_pixel, tiles_in}
use Rattle.r9_cells.specs.Rows.{cell_place, CellPlace}
use Rattle.r9_cells.proofs.Bands.{side}
use Rattle.r9_cells.proofs.Sets.{IsSet}
use Rattle.r9_cells.proofs.table.Cells.write_band.Given as goal

abbrev pub invariant-loop-column : goal.invariant-loop-column
invariant-loop-column g l = record {
  within : l.column ≤ width l.band;
  set : IsSet CellPlace (side l.band l.column) (cell_place l.i l.r) (λ p. get_or l.raws (number_in l.band l.first l.width p) 0) (place_pixel l.fn.self) (place_pixel l.self);
  rows : all_rows l.self ≡ all_rows l.fn.self;
  spare : spare (tiles_in l.self) ≡ spare (tiles_in l.fn.self);
  steps : l.steps ≡ l.fn.steps + l.column * height l.band;
}

abbrev pub decreases-loop-column : goal.decreases-loop-column
decreases-loop-column g l = width l.band - l.column
