-- Images that a drawing reads while its rows are written one after the other, from above.
use Rattle.std.specs.Prelude.{◌≡◌, ◌≢◌, ◌≤ℤ◌, ◌<ℤ◌, ℕ, Bool, true, false, [], IfSome}
use Rattle.r9_geom.specs.declared.Point.{Point}
use Rattle.r9_geom.specs.Geometry.{carried}
use Rattle.model_forest.specs.World.{World, image_at}
use Rattle.model_forest.specs.View.{at}
use Rattle.model_forest.specs.Draw.{with_canvas}
use Rattle.r9_layers.specs.declared.task.Task.{Task}

-- Image i is not the target, and no window stands on it: it gives its own pixels.
pub record IsApart (world : World) (dst : ℕ) (i : ℕ) : Type 0 where
  pub other : i ≢ dst
  pub bare : (image_at world i).windows ≡ []

-- The target is the source, where nothing stands on it and it does not repeat: each point takes a pixel of its own row or of
-- one below.
pub record IsAhead (world : World) (task : Task) : Type 0 where
  pub same : task.src ≡ task.dst
  pub bare : (image_at world task.dst).windows ≡ []
  pub once : (image_at world task.dst).repl ≡ false
  pub below : task.r.min.y ≤ℤ task.sp.y

-- What is written above a point does not change what the source gives to it, and nothing changes what the mask gives.
pub record IsSteady (world : World) (task : Task) : Type 0 where
  pub source : (area : Point → Bool) (new : Point → ℕ) (p : Point) → ((q : Point) → area q ≡ true → q.y <ℤ p.y) → at (with_canvas world task.dst area new) task.src (carried p task.r.min task.sp) ≡ at world task.src (carried p task.r.min task.sp)
  pub through : IfSome task.mask (IsApart world task.dst)
