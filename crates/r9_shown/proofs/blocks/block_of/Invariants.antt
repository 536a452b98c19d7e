use Rattle.std.proofs.Common.{◌≡◌, ◌<◌, ◌≤◌, true}
use Rattle.r9_geom.specs.declared.Point.{Point}
use Rattle.r9_geom.specs.Geometry.{carried, holds}
use Rattle.model_forest.specs.World.{image_at, IsLive}
use Rattle.model_kept.specs.Keeping.{keeping}
use Rattle.r9_locate.specs.locate.Table.{shape}
use Rattle.r9_shown.specs.Shown as shown
use Rattle.r9_shown.proofs.blocks.block_of.Given as goal

abbrev pub invariant-loop-standing : goal.invariant-loop-standing
invariant-loop-standing l = record {
  live : IsLive (shape l.lists) l.block.image;
  some : 0 < l.block.extent.columns;
  some_rows : 0 < l.block.extent.rows;
  few : l.block.extent.columns ≤ l.fn.most.columns;
  few_rows : l.block.extent.rows ≤ l.fn.most.rows;
  inside : (z : Point) → holds (shown.block l.block.at l.block.extent.columns l.block.extent.rows) z ≡ true → holds (image_at (shape l.lists) l.block.image).r z ≡ true;
  kept : (p : Point) → holds (shown.block l.fn.at l.block.extent.columns l.block.extent.rows) p ≡ true → keeping (shape l.lists) l.i p ≡ keeping (shape l.lists) l.block.image (carried p l.fn.at l.block.at);
}

abbrev pub decreases-loop-standing : goal.decreases-loop-standing
decreases-loop-standing l = (image_at (shape l.lists) l.block.image).depth
