use Rattle.std.proofs.Common.{◌-◌, ◌≤◌, ℕ, get_or}
use Rattle.r9_geom.specs.Geometry.{height}
use Rattle.r9_geom.proofs.GeometryLemmas.{band}
use Rattle.r9_plane.specs.Blocks.{number_in}
use Rattle.r9_cells.specs.Cells.{place_pixel}
use Rattle.r9_cells.specs.Rows.{cell_place}
use Rattle.r9_cells.proofs.Sets.{IsSet}
use Rattle.r9_cells.proofs.table.Cells.read_block.Given as goal

abbrev pub invariant-loop-row : goal.invariant-loop-row
invariant-loop-row l = record {
  within : l.row ≤ height l.block;
  set : IsSet ℕ (band l.block l.row) (number_in l.block l.first l.width) (λ p. place_pixel l.self (cell_place l.i l.r p)) (λ n. get_or l.fn.raws n 0) (λ n. get_or l.raws n 0);
}

abbrev pub decreases-loop-row : goal.decreases-loop-row
decreases-loop-row l = height l.block - l.row
