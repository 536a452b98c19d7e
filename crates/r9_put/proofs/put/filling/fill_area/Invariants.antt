use Rattle.std.proofs.Common.{◌≡◌, ◌≤◌, ◌+◌, ◌*◌, ◌-◌}
use Rattle.r9_geom.specs.Geometry.{height, holds, width}
use Rattle.r9_geom.proofs.GeometryLemmas.{band}
use Rattle.r9_locate.specs.locate.Table.{shape}
use Rattle.r9_pixels.specs.Kept.{writes}
use Rattle.r9_put.specs.put.Written.{IsWritten}
use Rattle.r9_put.proofs.put.filling.fill_area.Given as goal

abbrev pub invariant-loop-row : goal.invariant-loop-row
invariant-loop-row g l = record {
  within : l.row ≤ height l.r;
  written : IsWritten (shape l.lists) l.i (holds (band l.r l.row)) (λ _. l.raw) l.fn.pixels l.pixels;
  steps : l.steps ≤ l.fn.steps + width l.r * l.row;
  writes : writes l.pixels + l.fn.steps ≡ writes l.fn.pixels + l.steps;
}

abbrev pub decreases-loop-row : goal.decreases-loop-row
decreases-loop-row g l = l.height - l.row
