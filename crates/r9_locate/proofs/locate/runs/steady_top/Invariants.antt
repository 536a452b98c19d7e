use Rattle.std.proofs.Common.{◌≡◌, ◌<◌, ◌≤◌, ℕ, get_or}
use Rattle.r9_geom.specs.Geometry.{holds}
use Rattle.r9_plane.specs.Pixels.{along}
use Rattle.model_forest.specs.declared.Window.{Window}
use Rattle.r9_locate.proofs.locate.runs.steady_top.Given as goal

abbrev pub invariant-loop-w : goal.invariant-loop-w
invariant-loop-w l = record {
  some : 0 < l.len;
  most : l.len ≤ l.n;
  same : (j k : ℕ) (d : Window) → j < l.w-index → k < l.len → holds (get_or l.windows j d).place (along l.q k) ≡ holds (get_or l.windows j d).place l.q;
}
