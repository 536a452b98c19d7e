use Rattle.std.proofs.Common.{◌≡◌, ◌*◌, ◌+◌, ◌-◌, ◌^◌, ◌<◌, ◌≤◌, true}
use Rattle.r9_geom.specs.declared.Point.{Point}
use Rattle.r9_geom.specs.Geometry.{carried, height, holds, width}
use Rattle.r9_geom.proofs.GeometryLemmas.{band}
use Rattle.model_pixel.specs.Channels.{depth}
use Rattle.r9_plane.specs.Pixels.{chan_of, pixel_at}
use Rattle.r9_store.specs.Tiles.{spare}
use Rattle.r9_cells.specs.Cells.{all_rows, place_pixel, tiles_in}
use Rattle.r9_cells.specs.Rows.{cell_place, CellPlace}
use Rattle.r9_cells.proofs.Sets.{IsSet}
use Rattle.r9_cells.proofs.table.Cells.hide_block.Given as goal

abbrev pub invariant-loop-row : goal.invariant-loop-row
invariant-loop-row g l = record {
  within : l.row ≤ height l.block;
  set : IsSet CellPlace (band l.block l.row) (cell_place l.i l.r) (λ p. pixel_at l.plane (carried p l.block.min l.from)) (place_pixel l.fn.self) (place_pixel l.self);
  below : (p : Point) → holds (band l.block l.row) p ≡ true → pixel_at l.plane (carried p l.block.min l.from) < 2 ^ depth (chan_of l.plane);
  rows : all_rows l.self ≡ all_rows l.fn.self;
  spare : spare (tiles_in l.self) ≡ spare (tiles_in l.fn.self);
  steps : l.steps ≡ l.fn.steps + width l.block * l.row;
}

abbrev pub decreases-loop-row : goal.decreases-loop-row
decreases-loop-row g l = height l.block - l.row
