-- A drawing of an image onto itself that only moves its pixels.
use Rattle.std.specs.Prelude.{◌≡◌, ℕ, false}
use Rattle.std.specs.Int.Bits.{bit_and}
use Rattle.r9_geom.specs.declared.Point.{Point}
use Rattle.r9_geom.specs.Geometry.{carried}
use Rattle.model_forest.specs.View.{view}
use Rattle.model_forest.specs.World.{World, image_at}
use Rattle.r9_layers.specs.declared.task.Task.{Task}
use Rattle.r9_layers.specs.Area.{drawn_on}

-- the target is the source, which does not repeat, and each point gets these bits of what the source shows, whatever it has
pub record IsMoved (world : World) (task : Task) (bits : ℕ) : Type 0 where
  pub same : task.src ≡ task.dst
  pub once : (image_at world task.dst).repl ≡ false
  pub drawn : (p : Point) (own : ℕ) → drawn_on world task p own ≡ bit_and (view world task.dst (carried p task.r.min task.sp)) bits
