use Rattle.std.proofs.Common.{◌≡◌, ◌<◌, ◌≤◌, ℕ, true}
use Rattle.r9_geom.specs.Geometry.{holds}
use Rattle.r9_plane.specs.Pixels.{along}
use Rattle.model_forest.specs.World.{image_at, IsLive}
use Rattle.model_kept.specs.Keeping.{keeping}
use Rattle.r9_locate.specs.locate.Table.{shape}
use Rattle.r9_locate.proofs.locate.lists.Lists.locate.Given as goal

abbrev pub invariant-loop-standing : goal.invariant-loop-standing
invariant-loop-standing l = record {
  live : IsLive (shape l.self) l.run.image;
  some : 0 < l.run.len;
  most : l.run.len ≤ l.n;
  inside : (k : ℕ) → k < l.run.len → holds (image_at (shape l.self) l.run.image).r (along l.run.at k) ≡ true;
  kept : (k : ℕ) → k < l.run.len → keeping (shape l.self) l.i (along l.fn.at k) ≡ keeping (shape l.self) l.run.image (along l.run.at k);
}

abbrev pub decreases-loop-standing : goal.decreases-loop-standing
decreases-loop-standing l = (image_at (shape l.self) l.run.image).depth
