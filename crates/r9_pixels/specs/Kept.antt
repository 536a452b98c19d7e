-- The pixels of a table of images.
use Rattle.std.specs.Prelude.{◌≡◌, ℕ, Bool, false, List, None, Option, length, option_and_then, option_map}
use Rattle.std.specs.Option.{option_map_or}
use Rattle.r9_geom.specs.declared.Rect.{Rect}
use Rattle.model_forest.specs.declared.Window.{Window}
use Rattle.model_forest.specs.World.{World, no_rect}
use Rattle.model_kept.specs.Keeping.{Place}
use Rattle.r9_plane.specs.declared.plane.Plane.{Plane}
use Rattle.r9_plane.specs.Marks.{marked_at}
use Rattle.r9_plane.specs.Marks as plane
use Rattle.r9_store.specs.Tiles.{Tiles, spare}
use Rattle.r9_locate.specs.watched.Moments.{Moment, moment_at}
use Rattle.r9_locate.specs.locate.Forms.{Form}
use Rattle.r9_cells.specs.Cells.{all_rows, tiles_in}
use Rattle.r9_cells.specs.Fitting.{wanted_all, wanted_later}
use Rattle.r9_pixels.specs.declared.keeping.KeptPixels.{KeptPixels}
use Rattle.r9_pixels.specs.Owns.{form_in, has_in, kept_in, moment_in, own_at, plane_in, tile_in}

-- the pixel at a place, 0 where there is none
abbrev pub kept_at : KeptPixels → Place → ℕ
kept_at pixels place = option_map_or (kept_in pixels.cells place.image place.at) (own_at pixels.owns.items place.image) 0

-- whether there is such a place
abbrev pub has_place : KeptPixels → Place → Bool
has_place pixels place = option_map_or (has_in pixels.cells place.image place.at) (own_at pixels.owns.items place.image) false

-- the tile in which a place lies, where it lies in one, and all tiles
abbrev pub tile_at : KeptPixels → Place → Option ℕ
tile_at pixels place = option_map_or (tile_in pixels.cells place.image place.at) (own_at pixels.owns.items place.image) None

abbrev pub store_of : KeptPixels → Tiles
store_of pixels = tiles_in pixels.cells

-- what an image has for its pixels
abbrev pub form_at : KeptPixels → ℕ → Option Form
form_at pixels i = option_map form_in (own_at pixels.owns.items i)

-- the rectangle of an image
abbrev pub rect_at : KeptPixels → ℕ → Rect
rect_at pixels i = option_map_or (λ form. form.r) (form_at pixels i) no_rect

-- the numbers below this one have room for an image
abbrev pub room_of : KeptPixels → ℕ
room_of pixels = length pixels.owns.items

-- how many tiles are spare
abbrev pub spare_in : KeptPixels → ℕ
spare_in pixels = spare (tiles_in pixels.cells)

-- how many cells that image p hides with these windows have no tile
abbrev pub wanted_in : KeptPixels → World → ℕ → List Window → ℕ
wanted_in pixels world p windows = wanted_all (all_rows pixels.cells) world p windows windows

-- and how many cells more image q hides with a later list
abbrev pub later_in : KeptPixels → World → ℕ → List Window → ℕ → List Window → ℕ
later_in pixels world p windows q later = wanted_later (all_rows pixels.cells) world p windows q later

-- what each image with a plane was at the moment that proofs look back to
abbrev pub moment : KeptPixels → ℕ → Option Moment
moment pixels i = option_and_then moment_in (own_at pixels.owns.items i)

-- how many pixels have been written
abbrev pub writes : KeptPixels → ℕ
writes pixels = pixels.writes.sum

-- the plane of an image that has one, which of its cells are marked, and how many
abbrev pub plane_at : KeptPixels → ℕ → Option Plane
plane_at pixels i = option_and_then plane_in (own_at pixels.owns.items i)

abbrev pub marked : KeptPixels → ℕ → (column row : ℕ) → Bool
marked pixels i column row = option_map_or (λ plane. marked_at plane column row) (plane_at pixels i) false

abbrev pub mark_count : KeptPixels → ℕ → ℕ
mark_count pixels i = option_map_or plane.mark_count (plane_at pixels i) 0

-- what it is at this moment
abbrev pub moment_now : KeptPixels → ℕ → Option Moment
moment_now pixels i = option_map (λ plane. moment_at plane (writes pixels)) (plane_at pixels i)

-- both keep the same, at the same places
pub record IsUnchanged (old new : KeptPixels) : Type 0 where
  pub kept : kept_at new ≡ kept_at old
  pub has : has_place new ≡ has_place old
  pub forms : form_at new ≡ form_at old
  pub moment : moment new ≡ moment old
  pub writes : writes new ≡ writes old
