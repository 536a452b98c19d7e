-- What a drawing is told once of its images.
use Rattle.std.specs.Prelude.{◌≡◌, ℕ, true, false, None, IfSome}
use Rattle.r9_geom.specs.declared.Point.{Point}
use Rattle.r9_chan.specs.Op.{number}
use Rattle.r9_mem.specs.declared.single.Through.{Through}
use Rattle.r9_mem.specs.Through.{IsThrough}
use Rattle.model_forest.specs.View.{at}
use Rattle.model_forest.specs.World.{World, image_at, parent_of}
use Rattle.r9_layers.specs.declared.composing.Chans.{Chans}
use Rattle.r9_layers.specs.declared.composing.Masks.{Masks}
use Rattle.r9_layers.specs.declared.composing.Masks.TheVariants as masks
use Rattle.r9_layers.specs.declared.composing.Way.{Way}
use Rattle.r9_layers.specs.declared.task.Task.{Task}
use Rattle.r9_layers.specs.Apart.{IsApart}
use Rattle.r9_layers.specs.Area.{mask_at, mask_chan}

-- the mask is one pixel everywhere, and rows are drawn through it
pub record IsSingleOf (world : World) (task : Task) (through : Through) : Type 0 where
  pub m : ℕ
  pub all : (p : Point) → mask_at world task p ≡ m
  pub serves : IsThrough through (image_at world task.dst).chan (image_at world task.src).chan (mask_chan world task.mask) (number task.op) m

-- the channels of target, source and mask
pub record IsChansOf (world : World) (task : Task) (chans : Chans) : Type 0 where
  pub dst : chans.dst ≡ (image_at world task.dst).chan
  pub src : chans.src ≡ (image_at world task.src).chan
  pub mask : chans.mask ≡ mask_chan world task.mask

abbrev pub AreMasksOf : World → Task → Masks → Type 0
AreMasksOf world task (masks.Single through) = IsSingleOf world task through
AreMasksOf world task (masks.Image chans) = IsChansOf world task chans

-- an image that stands nowhere and does not repeat
pub record IsPlain (world : World) (i : ℕ) : Type 0 where
  pub nowhere : parent_of world i ≡ None
  pub once : (image_at world i).repl ≡ false

-- an image apart from the target gives this pixel everywhere
pub record IsTint (world : World) (task : Task) (raw : ℕ) : Type 0 where
  pub apart : IsApart world task.dst task.src
  pub all : (p : Point) → at world task.src p ≡ raw

pub record IsWayOf (world : World) (task : Task) (way : Way) : Type 0 where
  pub through : AreMasksOf world task way.masks
  pub source : way.plain ≡ true → IsPlain world task.src
  pub tint : IfSome way.tint (IsTint world task)
