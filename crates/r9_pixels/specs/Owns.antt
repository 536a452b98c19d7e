-- What images keep their pixels in, by number.
use Rattle.std.specs.Prelude.{◌≡◌, ◌≢◌, ◌^◌, ◌<◌, ℕ, Bool, true, false, length, List, Option, Some, None, slice_index_or, if◌then◌else◌}
use Rattle.r9_geom.specs.declared.Point.{Point}
use Rattle.r9_geom.specs.Geometry.{holds}
use Rattle.model_pixel.specs.Channels.{depth}
use Rattle.model_kept.specs.Cells.{cell_of}
use Rattle.r9_plane.specs.declared.plane.Plane.{Plane}
use Rattle.r9_plane.specs.Pixels.{chan_of, pixel_at, rect_of}
use Rattle.r9_locate.specs.locate.Forms.{Form}
use Rattle.r9_locate.specs.watched.Moments.{Moment, IsFew}
use Rattle.r9_locate.specs.watched.Watched.{count_of, moment_of}
use Rattle.r9_cells.specs.declared.table.Cells.{Cells}
use Rattle.r9_cells.specs.Cells.{all_rows, cell_pixel, place_pixel}
use Rattle.r9_cells.specs.Fitting.{IsCelled}
use Rattle.r9_cells.specs.Rows.{cell_at, cell_place, has_tile}
use Rattle.r9_locate.specs.declared.watched.Watched.{Watched}
use Rattle.r9_pixels.specs.declared.own.Extent.{Extent}
use Rattle.r9_pixels.specs.declared.own.Own.{Own}
use Rattle.r9_pixels.specs.declared.own.Own.TheVariants.{Whole, Hidden}

abbrev pub own_at : List (Option Own) → ℕ → Option Own
own_at owns i = slice_index_or owns i None

-- the pixel that an image keeps at a point, 0 outside its rectangle and where a window has no tile
abbrev pub kept_in : Cells → ℕ → Point → Own → ℕ
kept_in cells i p (Whole watched) = pixel_at watched.plane p
kept_in cells i p (Hidden extent) = if holds extent.r p then place_pixel cells (cell_place i extent.r p) else 0

abbrev pub has_in : Cells → ℕ → Point → Own → Bool
has_in cells i p (Whole watched) = holds (rect_of watched.plane) p
has_in cells i p (Hidden extent) = has_tile (all_rows cells) i extent.r p

-- the tile of the cell in which a point of a window lies
abbrev pub tile_in : Cells → ℕ → Point → Own → Option ℕ
tile_in cells i p (Whole watched) = None
tile_in cells i p (Hidden extent) = cell_at (all_rows cells) i (cell_of extent.r p)

-- the form of a plane, and of a window's tiles
abbrev pub plane_form : Plane → Form
plane_form plane = record { r = rect_of plane; chan = chan_of plane; is_window = false }

abbrev pub window_form : Extent → Form
window_form extent = record { r = extent.r; chan = extent.chan; is_window = true }

abbrev pub form_in : Own → Form
form_in (Whole watched) = plane_form watched.plane
form_in (Hidden extent) = window_form extent

-- each number has a row of cells: that of a window those of its rectangle, and the others none with a tile
pub record IsTabled (owns : List (Option Own)) (rows : List (List (Option ℕ))) : Type 0 where
  pub numbers : length rows ≡ length owns
  pub windows : (i : ℕ) (extent : Extent) → own_at owns i ≡ Some (Hidden extent) → IsCelled rows i extent.r
  pub others : (i k : ℕ) → ((extent : Extent) → own_at owns i ≢ Some (Hidden extent)) → cell_at rows i k ≡ None

-- the pixels in a window's tiles have no more bits than its channels
abbrev pub IsWithinBits : List (Option Own) → Cells → Type 0
IsWithinBits owns cells = (i k : ℕ) (p : Point) (extent : Extent) → own_at owns i ≡ Some (Hidden extent) → cell_pixel cells i k p < 2 ^ depth extent.chan

-- the plane
abbrev pub plane_in : Own → Option Plane
plane_in (Whole watched) = Some watched.plane
plane_in (Hidden extent) = None

-- what a plane was at the moment that proofs look back to
abbrev pub moment_in : Own → Option Moment
moment_in (Whole watched) = Some (moment_of watched)
moment_in (Hidden extent) = None

-- since then no more of its cells were marked than pixels were written, of which there are so many
abbrev pub IsFewIn : (writes : ℕ) → Own → Type 0
IsFewIn writes own = (watched : Watched) → own ≡ Whole watched → IsFew (moment_of watched) (count_of watched) writes

abbrev pub AreFew : (writes : ℕ) → List (Option Own) → Type 0
AreFew writes owns = (i : ℕ) (watched : Watched) → own_at owns i ≡ Some (Whole watched) → IsFew (moment_of watched) (count_of watched) writes
