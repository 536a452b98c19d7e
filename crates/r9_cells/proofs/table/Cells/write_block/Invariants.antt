use Rattle.std.proofs.Common.{◌≡◌, ◌*◌, ◌+◌, ◌-◌, ◌≤◌, get_or}
use Rattle.r9_geom.specs.Geometry.{height, width}
use Rattle.r9_geom.proofs.GeometryLemmas.{band}
use Rattle.r9_plane.specs.Blocks.{number_in}
use Rattle.r9_store.specs.Tiles.{spare}
use Rattle.r9_cells.specs.Cells.{all_rows, place_pixel, tiles_in}
use Rattle.r9_cells.specs.Rows.{cell_place, CellPlace}
use Rattle.r9_cells.proofs.Sets.{IsSet}
use Rattle.r9_cells.proofs.table.Cells.write_block.Given as goal

abbrev pub invariant-loop-row : goal.invariant-loop-row
invariant-loop-row g l = record {
  within : l.row ≤ height l.block;
  set : IsSet CellPlace (band l.block l.row) (cell_place l.i l.r) (λ p. get_or l.raws (number_in l.block l.first l.width p) 0) (place_pixel l.fn.self) (place_pixel l.self);
  rows : all_rows l.self ≡ all_rows l.fn.self;
  spare : spare (tiles_in l.self) ≡ spare (tiles_in l.fn.self);
  steps : l.steps ≡ l.fn.steps + width l.block * l.row;
}

abbrev pub decreases-loop-row : goal.decreases-loop-row
decreases-loop-row g l = height l.block - l.row
