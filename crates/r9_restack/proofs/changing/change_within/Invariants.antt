use Rattle.std.proofs.Common.{◌≡◌, ◌+◌, ◌*◌, ◌≤◌, ◌-◌, ℕ, Bool}
use Rattle.r9_geom.specs.declared.Point.{Point}
use Rattle.r9_geom.specs.Geometry.{height, width}
use Rattle.r9_geom.proofs.GeometryLemmas.{band}
use Rattle.model_kept.specs.Keeping.{Place}
use Rattle.r9_locate.specs.locate.Table.{shape}
use Rattle.r9_restack.specs.Stacks.{after_of}
use Rattle.r9_restack.specs.Moving.{more_in, IsFreshIn}
use Rattle.r9_restack.specs.Changing.{IsChanged}
use Rattle.r9_restack.proofs.changing.change_within.Given as goal

abbrev pub invariant-loop-row : goal.invariant-loop-row
invariant-loop-row g l = record {
  within : l.row ≤ height l.area;
  moved : (before : Place → ℕ) (done : Point → Bool) → IsFreshIn (l.area) done → IsChanged (shape l.lists) l.p (after_of l.stacks) l.w (g.S.Source.given l.source) (g.S.Source.fill l.source) before (g.P.Pixels.kept l.fn.pixels) done → IsChanged (shape l.lists) l.p (after_of l.stacks) l.w (g.S.Source.given l.source) (g.S.Source.fill l.source) before (g.P.Pixels.kept l.pixels) (more_in (band l.area l.row) done);
  has : g.P.Pixels.has l.pixels ≡ g.P.Pixels.has l.fn.pixels;
  forms : g.P.Pixels.forms l.pixels ≡ g.P.Pixels.forms l.fn.pixels;
  moment : g.P.Pixels.moment l.pixels ≡ g.P.Pixels.moment l.fn.pixels;
  spare : g.P.Pixels.spare l.pixels ≡ g.P.Pixels.spare l.fn.pixels;
  steps : l.steps ≤ l.fn.steps + 2 * (width l.area * l.row);
  writes : g.P.Pixels.writes l.pixels + l.fn.steps ≡ g.P.Pixels.writes l.fn.pixels + l.steps;
}

abbrev pub decreases-loop-row : goal.decreases-loop-row
decreases-loop-row g l = l.height - l.row
