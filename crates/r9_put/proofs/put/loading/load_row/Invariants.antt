use Rattle.std.proofs.Common.{◌≡◌, ◌≤◌, ◌+◌, ◌-◌}
use Rattle.r9_geom.specs.Geometry.{holds, point_at, strip}
use Rattle.model_pixel.specs.Channels.{depth}
use Rattle.model_pixel.specs.Rows.{row_pixel}
use Rattle.model_forest.specs.World.{image_at}
use Rattle.r9_locate.specs.locate.Table.{shape}
use Rattle.r9_pixels.specs.Kept.{writes}
use Rattle.r9_put.specs.put.Written.{IsWritten}
use Rattle.r9_put.proofs.put.loading.load_row.Given as goal

abbrev pub invariant-loop-done : goal.invariant-loop-done
invariant-loop-done g l = record {
  within : l.done ≤ l.width;
  written : IsWritten (shape l.lists) l.i (holds (strip (point_at l.r 0 l.row) l.done)) (row_pixel l.r (depth (image_at (shape l.lists) l.i).chan) l.rows) l.fn.pixels l.pixels;
  steps : l.steps ≤ l.fn.steps + l.done;
  writes : writes l.pixels + l.fn.steps ≡ writes l.fn.pixels + l.steps;
}

abbrev pub decreases-loop-done : goal.decreases-loop-done
decreases-loop-done g l = l.width - l.done
