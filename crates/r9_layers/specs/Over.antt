-- A drawing by SoverD through a full mask.
use Rattle.std.specs.Prelude.{◌≡◌, ℕ, false}
use Rattle.r9_geom.specs.declared.Point.{Point}
use Rattle.r9_geom.specs.Geometry.{carried}
use Rattle.model_forest.specs.View.{view}
use Rattle.model_forest.specs.World.{World, image_at}
use Rattle.r9_kern.specs.declared.layout.Over.{Over}
use Rattle.r9_kern.specs.Over.{over_of}
use Rattle.r9_layers.specs.declared.task.Task.{Task}
use Rattle.r9_layers.specs.Area.{drawn_on}

-- the source does not repeat, and each point gets what is composed so of what the source shows and of its own pixel
pub record IsOver (world : World) (task : Task) (over : Over) : Type 0 where
  pub once : (image_at world task.src).repl ≡ false
  pub drawn : (p : Point) (own : ℕ) → drawn_on world task p own ≡ over_of over (view world task.src (carried p task.r.min task.sp)) own
