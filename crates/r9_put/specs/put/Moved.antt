-- Blocks of two images, or of one, whose points are kept on planes.
use Rattle.std.specs.Prelude.{◌≡◌, ℕ, true, None}
use Rattle.r9_geom.specs.declared.Point.{Point}
use Rattle.r9_geom.specs.Geometry.{carried, holds}
use Rattle.model_forest.specs.View.{is_bare}
use Rattle.model_forest.specs.World.{World, image_at, parent_of, IsLive}
use Rattle.model_kept.specs.Keeping.{keeping, own}
use Rattle.r9_shown.specs.Shown.{block}
use Rattle.r9_shown.specs.declared.blocks.Extent.{Extent}
use Rattle.r9_put.specs.declared.put.moving.Shift.{Shift}

-- An image that stands nowhere keeps the points of an image from one on, so many columns and rows, from this place of it on.
pub record IsKeptOn (world : World) (i : ℕ) (at : Point) (size : Extent) (image : ℕ) (place : Point) : Type 0 where
  pub live : IsLive world image
  pub nowhere : parent_of world image ≡ None
  pub kept : (p : Point) → holds (block at size.columns size.rows) p ≡ true → keeping world i p ≡ own image (carried p at place)

-- Such images keep those of image i, on which nothing stands, and those of another image from another point on.
pub record IsShift (world : World) (i : ℕ) (at : Point) (source : ℕ) (from : Point) (size : Extent) (shift : Shift) : Type 0 where
  pub bare : (p : Point) → holds (block at size.columns size.rows) p ≡ true → is_bare (image_at world i).windows p ≡ true
  pub to : IsKeptOn world i at size shift.image shift.at
  pub taken : IsKeptOn world source from size shift.source shift.from
