-- A task as a drawing of the world of images, and what it gives a point.
use Rattle.std.specs.Prelude.{ℕ, Option, IfSome}
use Rattle.std.specs.Option.{option_map_or}
use Rattle.r9_geom.specs.declared.Point.{Point}
use Rattle.r9_geom.specs.Geometry.{carried}
use Rattle.model_pixel.specs.Composition.{composed_raw}
use Rattle.r9_chan.specs.Op.{number}
use Rattle.model_forest.specs.World.{World, image_at, IsLive}
use Rattle.model_forest.specs.View.{at}
use Rattle.model_forest.specs.Draw.{Drawing}
use Rattle.r9_layers.specs.declared.task.Task.{Task}

abbrev pub drawing_of : Task → Drawing
drawing_of task = record {
  dst = task.dst;
  clip = task.clip;
  r = task.r;
  src = task.src;
  sp = task.sp;
  mask = task.mask;
  mp = task.mp;
  op = number task.op;
}

-- its images live
pub record IsTaskOf (world : World) (task : Task) : Type 0 where
  pub dst : IsLive world task.dst
  pub src : IsLive world task.src
  pub mask : IfSome task.mask (IsLive world)

-- the channels of a mask: a full one is of grey in 8 bits
abbrev pub mask_chan : World → Option ℕ → ℕ
mask_chan world mask = option_map_or (λ i. (image_at world i).chan) mask 0x38

-- the raw pixel that the mask has where it stands at a point of the target
abbrev pub mask_at : World → Task → Point → ℕ
mask_at world task p = option_map_or (λ i. at world i (carried p task.r.min task.mp)) task.mask 255

-- the pixel that it gives a point of the target whose own pixel is `own`
abbrev pub drawn_on : World → Task → Point → ℕ → ℕ
drawn_on world task p own =
    composed_raw (image_at world task.dst).chan (image_at world task.src).chan (mask_chan world task.mask)
    (number task.op)
    (at world task.src (carried p task.r.min task.sp))
    (mask_at world task p)
    own
