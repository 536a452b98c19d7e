use Rattle.std.proofs.Common.{◌≡◌, ◌+◌, ◌*◌, ◌<◌, ◌≤◌, ℕ, get_or}
use Rattle.r9_geom.specs.Geometry.{point_at, width}
use Rattle.r9_forest.specs.Images.{world}
use Rattle.r9_layers.specs.Area.{drawn_on}
use Rattle.r9_layers.proofs.composing.compose_rows.Given as goal

abbrev pub invariant-loop-row : goal.invariant-loop-row
invariant-loop-row l = record {
  drawn : (column row : ℕ) → column < width l.area → row < l.row → get_or l.pixels (row * width l.area + column) 0 ≡ drawn_on (world l.images) l.task (point_at l.area column row) (get_or l.initial.pixels (row * width l.area + column) 0);
  rest : (k : ℕ) → l.row * l.width ≤ k → get_or l.pixels k 0 ≡ get_or l.initial.pixels k 0;
}
