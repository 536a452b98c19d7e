use Rattle.std.proofs.Common.{◌≡◌, ◌≤◌, ◌+◌, ◌*◌}
use Rattle.r9_geom.specs.Geometry.{holds, width}
use Rattle.r9_geom.proofs.GeometryLemmas.{band}
use Rattle.model_pixel.specs.Channels.{depth}
use Rattle.model_pixel.specs.Rows.{row_pixel}
use Rattle.model_forest.specs.World.{image_at}
use Rattle.r9_locate.specs.locate.Table.{shape}
use Rattle.r9_pixels.specs.Kept.{writes}
use Rattle.r9_put.specs.put.Written.{IsWritten}
use Rattle.r9_put.proofs.put.loading.load_rows.Given as goal

abbrev pub invariant-loop-row : goal.invariant-loop-row
invariant-loop-row g l = record {
  written : IsWritten (shape l.lists) l.i (holds (band l.r l.row)) (row_pixel l.r (depth (image_at (shape l.lists) l.i).chan) l.rows) l.fn.pixels l.pixels;
  steps : l.steps ≤ l.fn.steps + width l.r * l.row;
  writes : writes l.pixels + l.fn.steps ≡ writes l.fn.pixels + l.steps;
}
