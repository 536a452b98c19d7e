use Rattle.std.proofs.Common.{◌≡◌, ◌≤◌, ◌+◌, ◌*◌, ◌-◌}
use Rattle.r9_geom.specs.declared.Point.{Point}
use Rattle.r9_geom.specs.Geometry.{carried, width}
use Rattle.model_kept.specs.Keeping.{keeping, own, Place}
use Rattle.r9_locate.specs.locate.Table.{shape}
use Rattle.r9_shown.proofs.Columns.{left_of}
use Rattle.r9_shown.proofs.Writing.{IsFilled}
use Rattle.r9_shown.proofs.viewing.save_band.Given as goal

abbrev pub invariant-loop-done : goal.invariant-loop-done
invariant-loop-done g l = record {
  within : l.done ≤ width l.r;
  filled : IsFilled Place (λ (q : Point). own l.to (carried q l.r.min l.p)) (λ (q : Point). g.P.Pixels.kept l.fn.pixels (keeping (shape l.lists) l.i q)) (g.P.Pixels.kept l.fn.pixels) (g.P.Pixels.kept l.pixels) (left_of l.r l.row l.band.rows l.done);
  has : g.P.Pixels.has l.pixels ≡ g.P.Pixels.has l.fn.pixels;
  forms : g.P.Pixels.forms l.pixels ≡ g.P.Pixels.forms l.fn.pixels;
  moment : g.P.Pixels.moment l.pixels ≡ g.P.Pixels.moment l.fn.pixels;
  spare : g.P.Pixels.spare l.pixels ≡ g.P.Pixels.spare l.fn.pixels;
  steps : l.steps ≡ l.fn.steps + l.done * l.band.rows;
  writes : g.P.Pixels.writes l.pixels + l.fn.steps ≡ g.P.Pixels.writes l.fn.pixels + l.steps;
}

abbrev pub decreases-loop-done : goal.decreases-loop-done
decreases-loop-done g l = width l.r - l.done
