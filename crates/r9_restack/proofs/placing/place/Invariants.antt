use Rattle.std.proofs.Common.{◌≡◌, ◌+◌, ◌*◌, ◌-◌, ◌≤◌, ℕ, true, false}
use Rattle.std.specs.Prelude.{◌&&◌, ◌||◌}
use Rattle.r9_geom.specs.declared.Point.{Point}
use Rattle.r9_geom.specs.Geometry.{carried, height, holds, width}
use Rattle.r9_geom.proofs.GeometryLemmas.{band}
use Rattle.model_forest.specs.World.{image_at}
use Rattle.model_kept.specs.Keeping.{own, Place}
use Rattle.r9_locate.specs.locate.Table.{shape}
use Rattle.r9_restack.specs.Placing.{comes, shows, IsPlaced}
use Rattle.r9_restack.specs.Stacks.{after_of}
use Rattle.r9_restack.proofs.placing.place.Given as goal

abbrev pub invariant-loop-row : goal.invariant-loop-row
invariant-loop-row g l = record {
  within : l.row ≤ height l.r;
  moved : (before : Place → ℕ) → IsPlaced (shape l.lists) l.p (after_of l.stacks) l.w (g.S.Source.given l.source) (g.S.Source.fill l.source) before (g.P.Pixels.kept l.fn.pixels) (holds l.area) → IsPlaced (shape l.lists) l.p (after_of l.stacks) l.w (g.S.Source.given l.source) (g.S.Source.fill l.source) before (g.P.Pixels.kept l.pixels) (λ z. (holds (band l.r l.row) (carried z l.corner l.r.min) && comes (image_at (shape l.lists) l.p).r l.area (after_of l.stacks) l.w z) || holds l.area z);
  kept : (z : Point) → holds (band l.r l.row) z ≡ true → shows (image_at (shape l.lists) l.p).r (after_of l.stacks) l.w (carried z l.r.min l.corner) ≡ false → g.P.Pixels.kept l.pixels (own l.w z) ≡ g.S.Source.given l.source z;
  has : g.P.Pixels.has l.pixels ≡ g.P.Pixels.has l.fn.pixels;
  forms : g.P.Pixels.forms l.pixels ≡ g.P.Pixels.forms l.fn.pixels;
  moment : g.P.Pixels.moment l.pixels ≡ g.P.Pixels.moment l.fn.pixels;
  spare : g.P.Pixels.spare l.pixels ≡ g.P.Pixels.spare l.fn.pixels;
  steps : l.steps ≤ l.fn.steps + 2 * (width l.r * l.row);
  writes : g.P.Pixels.writes l.pixels + l.fn.steps ≡ g.P.Pixels.writes l.fn.pixels + l.steps;
}

abbrev pub decreases-loop-row : goal.decreases-loop-row
decreases-loop-row g l = l.height - l.row
