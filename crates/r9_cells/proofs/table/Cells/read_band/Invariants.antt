use Rattle.std.proofs.Common.{◌-◌, ◌≤◌, ℕ, get_or}
use Rattle.r9_geom.specs.Geometry.{width}
use Rattle.r9_plane.specs.Blocks.{number_in}
use Rattle.r9_cells.specs.Cells.{place_pixel}
use Rattle.r9_cells.specs.Rows.{cell_place}
use Rattle.r9_cells.proofs.Bands.{side}
use Rattle.r9_cells.proofs.Sets.{IsSet}
use Rattle.r9_cells.proofs.table.Cells.read_band.Given as goal

abbrev pub invariant-loop-column : goal.invariant-loop-column
invariant-loop-column l = record {
  within : l.column ≤ width l.band;
  set : IsSet ℕ (side l.band l.column) (number_in l.band l.first l.width) (λ p. place_pixel l.self (cell_place l.i l.r p)) (λ n. get_or l.fn.raws n 0) (λ n. get_or l.raws n 0);
}

abbrev pub decreases-loop-column : goal.decreases-loop-column
decreases-loop-column l = width l.band - l.column
