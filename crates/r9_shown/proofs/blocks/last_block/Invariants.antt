use Rattle.std.proofs.Common.{◌≡◌, ◌<◌, ◌≤◌, ◌-◌, ℕ, true}
use Rattle.r9_geom.specs.declared.Point.{Point}
use Rattle.r9_geom.specs.Geometry.{holds, strip}
use Rattle.r9_plane.specs.Pixels.{along}
use Rattle.r9_locate.specs.locate.Table.{shape}
use Rattle.r9_shown.specs.Blocks.{IsKeptFrom}
use Rattle.r9_shown.specs.Shown.{IsKeptBelow}
use Rattle.r9_shown.proofs.blocks.last_block.Given as goal

abbrev pub invariant-loop-done : goal.invariant-loop-done
invariant-loop-done l = record {
  some : 0 < l.last.extent.columns;
  some_rows : 0 < l.last.extent.rows;
  most : l.last.extent.rows ≤ l.first.extent.rows;
  fits : l.last.extent.columns ≤ l.done;
  within : l.done ≤ l.columns;
  kept : IsKeptFrom (shape l.lists) l.i (along l.at (l.done - l.last.extent.columns)) l.last;
  same : (z : Point) (k : ℕ) → holds (strip l.at l.done) z ≡ true → k < l.last.extent.rows → IsKeptBelow (shape l.lists) l.i z k;
}

abbrev pub decreases-loop-done : goal.decreases-loop-done
decreases-loop-done l = l.columns - l.done
