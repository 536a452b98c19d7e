use Rattle.std.proofs.Common.{◌≡◌, ◌<◌, ◌≤◌, ◌-◌, ℕ, get_or, length}
use Rattle.r9_geom.specs.Geometry.{reduced}
use Rattle.r9_plane.specs.Pixels.{along}
use Rattle.model_forest.specs.View.{view}
use Rattle.model_forest.specs.World.{image_at}
use Rattle.r9_forest.specs.Images.{world}
use Rattle.r9_forest.proofs.images.Images.read_repeated.Given as goal

abbrev pub invariant-loop-done : goal.invariant-loop-done
invariant-loop-done l = record {
  within : l.done ≤ length l.raws;
  read : (k : ℕ) → k < l.done → get_or l.raws k 0 ≡ view (world l.self) l.i (reduced (image_at (world l.self) l.i).r (along l.from k));
}

abbrev pub decreases-loop-done : goal.decreases-loop-done
decreases-loop-done l = length l.initial.raws - l.done
