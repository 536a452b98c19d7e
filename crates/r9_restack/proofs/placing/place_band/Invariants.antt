use Rattle.std.proofs.Common.{◌≡◌, ◌+◌, ◌*◌, ◌-◌, ◌≤◌, ℕ, Bool, true, false}
use Rattle.r9_geom.specs.declared.Point.{Point}
use Rattle.r9_geom.specs.Geometry.{carried, holds}
use Rattle.model_forest.specs.World.{image_at}
use Rattle.model_kept.specs.Keeping.{own, Place}
use Rattle.r9_locate.specs.locate.Table.{shape}
use Rattle.r9_shown.specs.Shown.{block}
use Rattle.r9_restack.specs.Placing.{comes, shows, with_coming, IsComing, IsPlaced}
use Rattle.r9_restack.specs.Stacks.{after_of}
use Rattle.r9_restack.proofs.placing.place_band.Given as goal

abbrev pub invariant-loop-done : goal.invariant-loop-done
invariant-loop-done g l = record {
  within : l.done ≤ l.columns;
  moved : (before : Place → ℕ) (also : Point → Bool) → IsComing (block l.q l.columns l.rows) (comes (image_at (shape l.lists) l.p).r l.area (after_of l.stacks) l.w) also → IsPlaced (shape l.lists) l.p (after_of l.stacks) l.w (g.S.Source.given l.source) (g.S.Source.fill l.source) before (g.P.Pixels.kept l.fn.pixels) also → IsPlaced (shape l.lists) l.p (after_of l.stacks) l.w (g.S.Source.given l.source) (g.S.Source.fill l.source) before (g.P.Pixels.kept l.pixels) (with_coming (block l.q l.done l.rows) (comes (image_at (shape l.lists) l.p).r l.area (after_of l.stacks) l.w) also);
  kept : (z : Point) → holds (block l.x l.done l.rows) z ≡ true → shows (image_at (shape l.lists) l.p).r (after_of l.stacks) l.w (carried z l.x l.q) ≡ false → g.P.Pixels.kept l.pixels (own l.w z) ≡ g.S.Source.given l.source z;
  others : (z : Point) → holds (block l.x l.done l.rows) z ≡ false → g.P.Pixels.kept l.pixels (own l.w z) ≡ g.P.Pixels.kept l.fn.pixels (own l.w z);
  has : g.P.Pixels.has l.pixels ≡ g.P.Pixels.has l.fn.pixels;
  forms : g.P.Pixels.forms l.pixels ≡ g.P.Pixels.forms l.fn.pixels;
  moment : g.P.Pixels.moment l.pixels ≡ g.P.Pixels.moment l.fn.pixels;
  spare : g.P.Pixels.spare l.pixels ≡ g.P.Pixels.spare l.fn.pixels;
  steps : l.steps ≤ l.fn.steps + 2 * (l.done * l.rows);
  writes : g.P.Pixels.writes l.pixels + l.fn.steps ≡ g.P.Pixels.writes l.fn.pixels + l.steps;
}

abbrev pub decreases-loop-done : goal.decreases-loop-done
decreases-loop-done g l = l.columns - l.done
