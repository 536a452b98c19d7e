use Rattle.std.proofs.Common.{◌≡◌, ◌<◌, ◌≤◌, ℕ, get_or}
use Rattle.r9_geom.specs.declared.Point.{Point}
use Rattle.r9_geom.specs.Geometry.{holds}
use Rattle.model_forest.specs.declared.Window.{Window}
use Rattle.r9_shown.specs.Shown.{down}
use Rattle.r9_shown.proofs.bands.steady_rows.Given as goal

abbrev pub invariant-loop-w : goal.invariant-loop-w
invariant-loop-w l = record {
  some : 0 < l.rows;
  most : l.rows ≤ l.n;
  same : (p : Point) (j k : ℕ) (d : Window) → p.y ≡ l.q.y → j < l.w-index → k < l.rows → holds (get_or l.windows j d).place (down p k) ≡ holds (get_or l.windows j d).place p;
}
