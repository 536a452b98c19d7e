-- The pixels with which a window comes, and those that fill where one stood.
use Rattle.std.specs.Prelude.{◌≤◌, ℕ, ⊤, List, slice_index, vec_len, if◌then◌else◌}
use Rattle.r9_geom.specs.declared.Point.{Point}
use Rattle.r9_geom.specs.declared.Rect.{Rect}
use Rattle.r9_geom.specs.Geometry.{area_of, holds}
use Rattle.r9_plane.specs.Pixels.{number_of}
use Rattle.model_forest.specs.World.{World, image_at}
use Rattle.model_kept.specs.Keeping.{place_among}
use Rattle.r9_relist.specs.relist.Relisting.{meet_from}
use Rattle.r9_forest.specs.declared.moving.Filling.{Filling}
use Rattle.r9_forest.specs.declared.moving.Filling.TheVariants.{Plain as Filled, Rows}
use Rattle.r9_forest.specs.declared.coming.Given.{Given}
use Rattle.r9_forest.specs.declared.coming.Given.TheVariants.{Plain, Read}

-- one raw pixel everywhere, or those of the room in the window's rectangle
abbrev pub given_at : Given → Rect → List ℕ → Point → ℕ
given_at (Plain raw) r room p = raw
given_at Read r room p = if holds r p then slice_index room (number_of r p) else 0

-- where a window stands on image p, as far as that has points: no points at its corner where it has none there
abbrev pub left_of : World → ℕ → ℕ → Rect
left_of world p i = meet_from (place_among (image_at world p).windows i) (image_at world p).r

-- there are enough rows of pixels for a rectangle, where there is not one pixel for all
abbrev pub IsEnough : Filling → Rect → Type 0
IsEnough (Filled raw) r = ⊤
IsEnough (Rows rows) r = area_of r ≤ vec_len rows

-- what fills at a point of the rectangle
abbrev pub filled_at : Filling → Rect → Point → ℕ
filled_at (Filled raw) r p = raw
filled_at (Rows rows) r p = if holds r p then slice_index rows.items (number_of r p) else 0
