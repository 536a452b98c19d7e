use Rattle.std.proofs.Common.{◌≡◌, ◌+◌, ◌≤◌, ◌-◌}
use Rattle.std.specs.Prelude.{if◌then◌else◌}
use Rattle.r9_geom.specs.declared.Point.{Point}
use Rattle.r9_geom.specs.Geometry.{carried, holds, strip}
use Rattle.r9_plane.specs.Pixels.{chan_of, pixel_at, rect_of}
use Rattle.r9_locate.specs.watched.Watched.{count_of, moment_of}
use Rattle.r9_cells.specs.Rows.{cell_place}
use Rattle.r9_cells.specs.Cells.{place_pixel}
use Rattle.r9_cells.proofs.table.Cells.show.Given as goal

abbrev pub invariant-loop-done : goal.invariant-loop-done
invariant-loop-done g l = record {
  within : l.done ≤ l.n;
  rect : rect_of l.watched.plane ≡ rect_of l.fn.watched.plane;
  chan : chan_of l.watched.plane ≡ chan_of l.fn.watched.plane;
  moment : moment_of l.watched ≡ moment_of l.fn.watched;
  few : count_of l.watched + l.fn.steps ≤ count_of l.fn.watched + l.steps;
  pixels : (q : Point) → pixel_at l.watched.plane q ≡ (if holds (strip l.at l.done) q then place_pixel l.self (cell_place l.i l.r (carried q l.at l.from)) else pixel_at l.fn.watched.plane q);
  steps : l.steps ≡ l.fn.steps + l.done;
}

abbrev pub decreases-loop-done : goal.decreases-loop-done
decreases-loop-done g l = l.n - l.done
