use Rattle.std.proofs.Common.{◌≡◌, ◌<◌, ◌≤◌, ℕ, true, false, get_or, length}
use Rattle.r9_geom.specs.declared.Point.{Point}
use Rattle.r9_geom.specs.Geometry.{holds}
use Rattle.model_forest.specs.declared.Window.{Window}
use Rattle.r9_shown.specs.Shown.{block, IsEnd}
use Rattle.r9_shown.proofs.blocks.cover_over.Given as goal

abbrev pub invariant-loop-left : goal.invariant-loop-left
invariant-loop-left l = record {
  within : l.left ≤ length l.windows;
  some : 0 < l.extent.columns;
  some_rows : 0 < l.extent.rows;
  few : l.extent.columns ≤ l.most.columns;
  few_rows : l.extent.rows ≤ l.most.rows;
  end : IsEnd l.q.x l.extent.columns l.end.x;
  end_rows : IsEnd l.q.y l.extent.rows l.end.y;
  clear : (j : ℕ) (d : Window) (z : Point) → l.left ≤ j → j < length l.windows → holds (block l.q l.extent.columns l.extent.rows) z ≡ true → holds (get_or l.windows j d).place z ≡ false;
}

abbrev pub decreases-loop-left : goal.decreases-loop-left
decreases-loop-left l = l.left
