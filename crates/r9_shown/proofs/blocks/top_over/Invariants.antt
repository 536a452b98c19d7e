use Rattle.std.proofs.Common.{◌≡◌, ◌-◌, ◌<◌, ◌≤◌, ℕ, get_or, length, true, false}
use Rattle.r9_geom.specs.declared.Point.{Point}
use Rattle.r9_geom.specs.Geometry.{holds}
use Rattle.model_forest.specs.declared.Window.{Window}
use Rattle.r9_shown.specs.Shown.{block, IsEnd}
use Rattle.r9_shown.proofs.blocks.top_over.Given as goal

abbrev pub invariant-loop-at : goal.invariant-loop-at
invariant-loop-at l = record {
  some : 0 < l.extent.columns;
  some_rows : 0 < l.extent.rows;
  most : l.extent.columns ≤ l.fn.most.columns;
  most_rows : l.extent.rows ≤ l.fn.most.rows;
  end : IsEnd l.q.x l.extent.columns l.end.x;
  end_rows : IsEnd l.q.y l.extent.rows l.end.y;
  none : (z : Point) (j : ℕ) (d : Window) → holds (block l.q l.extent.columns l.extent.rows) z ≡ true → j < l.at → holds (get_or l.windows j d).place z ≡ false;
}

abbrev pub decreases-loop-at : goal.decreases-loop-at
decreases-loop-at l = length l.windows - l.at
