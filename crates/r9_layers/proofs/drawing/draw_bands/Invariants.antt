use Rattle.std.proofs.Common.{◌≡◌, ◌≤◌, ◌+◌, ◌-◌, ◌*◌}
use Rattle.r9_geom.specs.Geometry.{height, holds, width}
use Rattle.r9_geom.proofs.GeometryLemmas.{band}
use Rattle.model_forest.specs.Draw.{drawn, with_canvas}
use Rattle.r9_forest.specs.Images.{moment, numbers, world, writes}
use Rattle.r9_layers.specs.Area.{drawing_of}
use Rattle.r9_layers.proofs.drawing.draw_bands.Given as goal

abbrev pub invariant-loop-row : goal.invariant-loop-row
invariant-loop-row g l = record {
  most : l.row ≤ height l.area;
  drawn : world l.images ≡ with_canvas (world l.fn.images) l.task.dst (holds (band l.area l.row)) (drawn (world l.fn.images) (drawing_of l.task));
  numbers : numbers l.images ≡ numbers l.fn.images;
  steps : l.steps ≤ l.fn.steps + width l.area * l.row;
  moment : moment l.images ≡ moment l.fn.images;
  writes : writes l.images + l.fn.steps ≡ writes l.fn.images + l.steps;
}

abbrev pub decreases-loop-row : goal.decreases-loop-row
decreases-loop-row g l = height l.area - l.row
