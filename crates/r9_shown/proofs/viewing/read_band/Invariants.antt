use Rattle.std.proofs.Common.{◌≤◌, ◌-◌, ℕ, get_or}
use Rattle.r9_geom.specs.Geometry.{width}
use Rattle.r9_geom.specs.declared.Point.{Point}
use Rattle.r9_plane.specs.Pixels.{number_of}
use Rattle.model_kept.specs.Keeping.{keeping}
use Rattle.r9_locate.specs.locate.Table.{shape}
use Rattle.r9_shown.proofs.Columns.{left_of}
use Rattle.r9_shown.proofs.Writing.{IsFilled}
use Rattle.r9_shown.proofs.viewing.read_band.Given as goal

abbrev pub invariant-loop-done : goal.invariant-loop-done
invariant-loop-done g l = record {
  within : l.done ≤ width l.r;
  filled : IsFilled ℕ (number_of l.r) (λ (p : Point). g.P.Pixels.kept l.pixels (keeping (shape l.lists) l.i p)) (λ n. get_or l.fn.raws n 0) (λ n. get_or l.raws n 0) (left_of l.r l.row l.band.rows l.done);
}

abbrev pub decreases-loop-done : goal.decreases-loop-done
decreases-loop-done g l = width l.r - l.done
