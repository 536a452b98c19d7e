use Rattle.std.proofs.Common.{◌≡◌, ◌≤◌, ◌+◌, ◌*◌, ◌-◌}
use Rattle.r9_geom.specs.declared.Point.{Point}
use Rattle.r9_geom.specs.Geometry.{height, width}
use Rattle.r9_geom.proofs.GeometryLemmas.{band}
use Rattle.model_kept.specs.Keeping.{keeping, Place}
use Rattle.r9_locate.specs.locate.Table.{shape}
use Rattle.r9_shown.proofs.Writing.{IsFilled}
use Rattle.r9_shown.proofs.viewing.paint_area.Given as goal

abbrev pub invariant-loop-row : goal.invariant-loop-row
invariant-loop-row g l = record {
  within : l.row ≤ height l.r;
  filled : IsFilled Place (keeping (shape l.lists) l.i) (λ (p : Point). l.raw) (g.P.Pixels.kept l.fn.pixels) (g.P.Pixels.kept l.pixels) (band l.r l.row);
  has : g.P.Pixels.has l.pixels ≡ g.P.Pixels.has l.fn.pixels;
  forms : g.P.Pixels.forms l.pixels ≡ g.P.Pixels.forms l.fn.pixels;
  moment : g.P.Pixels.moment l.pixels ≡ g.P.Pixels.moment l.fn.pixels;
  spare : g.P.Pixels.spare l.pixels ≡ g.P.Pixels.spare l.fn.pixels;
  steps : l.steps ≡ l.fn.steps + width l.r * l.row;
  writes : g.P.Pixels.writes l.pixels + l.fn.steps ≡ g.P.Pixels.writes l.fn.pixels + l.steps;
}

abbrev pub decreases-loop-row : goal.decreases-loop-row
decreases-loop-row g l = height l.r - l.row
