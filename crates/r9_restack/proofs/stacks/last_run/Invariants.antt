use Rattle.std.proofs.Common.{◌≡◌, ◌<◌, ◌≤◌, ◌-◌, ℕ, true}
use Rattle.r9_geom.specs.declared.Point.{Point}
use Rattle.r9_geom.specs.Geometry.{holds, strip}
use Rattle.r9_plane.specs.Pixels.{along}
use Rattle.r9_shown.specs.Shown.{down}
use Rattle.r9_restack.specs.Stacks.{tops_at, IsRunAlong}
use Rattle.r9_restack.proofs.stacks.last_run.Given as goal

abbrev pub invariant-loop-done : goal.invariant-loop-done
invariant-loop-done l = record {
  some : 0 < l.last.extent.columns;
  some_rows : 0 < l.last.extent.rows;
  most : l.last.extent.rows ≤ l.first.extent.rows;
  fits : l.last.extent.columns ≤ l.done;
  within : l.done ≤ l.columns;
  tops : IsRunAlong l.stacks (along l.at (l.done - l.last.extent.columns)) l.last;
  same : (z : Point) (k : ℕ) → holds (strip l.at l.done) z ≡ true → k < l.last.extent.rows → tops_at l.stacks (down z k) ≡ tops_at l.stacks z;
}

abbrev pub decreases-loop-done : goal.decreases-loop-done
decreases-loop-done l = l.columns - l.done
