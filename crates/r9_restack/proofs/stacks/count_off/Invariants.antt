use Rattle.std.proofs.Common.{◌≡◌, ◌<◌, ℕ, get_or, true, false}
use Rattle.r9_geom.specs.declared.Point.{Point}
use Rattle.r9_geom.specs.Geometry.{holds}
use Rattle.model_forest.specs.declared.Window.{Window}
use Rattle.r9_restack.proofs.stacks.count_off.Given as goal

abbrev pub invariant-loop-count : goal.invariant-loop-count
invariant-loop-count l = (z : Point) (j : ℕ) (d : Window) → holds l.area z ≡ true → j < l.count → holds (get_or l.windows j d).place z ≡ false
