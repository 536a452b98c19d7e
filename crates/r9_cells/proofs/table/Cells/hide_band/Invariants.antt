use Rattle.std.proofs.Common.{◌≡◌, ◌*◌, ◌+◌, ◌-◌, ◌^◌, ◌<◌, ◌≤◌, true}
use Rattle.r9_geom.specs.declared.Point.{Point}
use Rattle.r9_geom.specs.Geometry.{carried, height, holds, width}
use Rattle.model_pixel.specs.Channels.{depth}
use Rattle.r9_plane.specs.Pixels.{chan_of, pixel_at}
use Rattle.r9_store.specs.Tiles.{spare}
use Rattle.r9_cells.specs.Cells.{all_rows, place_pixel, tiles_in}
use Rattle.r9_cells.specs.Rows.{cell_place, CellPlace}
use Rattle.r9_cells.proofs.Bands.{side}
use Rattle.r9_cells.proofs.Sets.{IsSet}
use Rattle.r9_cells.proofs.table.Cells.hide_band.Given as goal

abbrev pub invariant-loop-column : goal.invariant-loop-column
invariant-loop-column g l = record {
  within : l.column ≤ width l.band;
  set : IsSet CellPlace (side l.band l.column) (cell_place l.i l.r) (λ p. pixel_at l.plane (carried p l.band.min l.from)) (place_pixel l.fn.self) (place_pixel l.self);
  below : (p : Point) → holds (side l.band l.column) p ≡ true → pixel_at l.plane (carried p l.band.min l.from) < 2 ^ depth (chan_of l.plane);
  rows : all_rows l.self ≡ all_rows l.fn.self;
  spare : spare (tiles_in l.self) ≡ spare (tiles_in l.fn.self);
  steps : l.steps ≡ l.fn.steps + l.column * height l.band;
}

abbrev pub decreases-loop-column : goal.decreases-loop-column
decreases-loop-column g l = width l.band - l.column
