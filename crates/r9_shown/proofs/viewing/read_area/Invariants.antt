use Rattle.std.proofs.Common.{◌≤◌, ◌-◌, ℕ, get_or}
use Rattle.r9_geom.specs.Geometry.{height}
use Rattle.r9_geom.proofs.GeometryLemmas.{band}
use Rattle.r9_geom.specs.declared.Point.{Point}
use Rattle.r9_plane.specs.Pixels.{number_of}
use Rattle.model_kept.specs.Keeping.{keeping}
use Rattle.r9_locate.specs.locate.Table.{shape}
use Rattle.r9_shown.proofs.Writing.{IsFilled}
use Rattle.r9_shown.proofs.viewing.read_area.Given as goal

abbrev pub invariant-loop-row : goal.invariant-loop-row
invariant-loop-row g l = record {
  within : l.row ≤ height l.r;
  filled : IsFilled ℕ (number_of l.r) (λ (p : Point). g.P.Pixels.kept l.pixels (keeping (shape l.lists) l.i p)) (λ n. get_or l.fn.raws n 0) (λ n. get_or l.raws n 0) (band l.r l.row);
}

abbrev pub decreases-loop-row : goal.decreases-loop-row
decreases-loop-row g l = height l.r - l.row
