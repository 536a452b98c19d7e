use Rattle.std.proofs.Common.{◌≡◌, ◌*◌, ◌+◌, ◌-◌, ◌≤◌}
use Rattle.std.specs.Prelude.{if◌then◌else◌}
use Rattle.r9_geom.specs.declared.Point.{Point}
use Rattle.r9_geom.specs.Geometry.{carried, height, holds, width}
use Rattle.r9_geom.proofs.GeometryLemmas.{band}
use Rattle.r9_plane.specs.Pixels.{chan_of, pixel_at, rect_of}
use Rattle.r9_locate.specs.watched.Watched.{count_of, moment_of}
use Rattle.r9_cells.specs.Cells.{place_pixel}
use Rattle.r9_cells.specs.Rows.{cell_place}
use Rattle.r9_cells.proofs.table.Cells.show_block.Given as goal

abbrev pub invariant-loop-row : goal.invariant-loop-row
invariant-loop-row g l = record {
  within : l.row ≤ height l.block;
  rect : rect_of l.watched.plane ≡ rect_of l.fn.watched.plane;
  chan : chan_of l.watched.plane ≡ chan_of l.fn.watched.plane;
  moment : moment_of l.watched ≡ moment_of l.fn.watched;
  few : count_of l.watched + l.fn.steps ≤ count_of l.fn.watched + l.steps;
  shown : (q : Point) → pixel_at l.watched.plane q ≡ (if holds (band l.block l.row) (carried q l.to l.block.min) then place_pixel l.self (cell_place l.i l.r (carried q l.to l.block.min)) else pixel_at l.fn.watched.plane q);
  steps : l.steps ≡ l.fn.steps + width l.block * l.row;
}

abbrev pub decreases-loop-row : goal.decreases-loop-row
decreases-loop-row g l = height l.block - l.row
