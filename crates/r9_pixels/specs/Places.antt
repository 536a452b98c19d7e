-- The places that windows have for their pixels, with the cells in which those lie.
use Rattle.std.specs.Prelude.{◌≡◌, ◌≤◌, ℕ, Bool, true, false, All, Option, Some, List, ◌==◌, ◌&&◌, if◌then◌else◌}
use Rattle.std.specs.List.{list_any}
use Rattle.r9_geom.specs.declared.Point.{Point}
use Rattle.r9_geom.specs.declared.Rect.{Rect}
use Rattle.r9_geom.specs.Geometry.{at_min, holds, IsRectNear}
use Rattle.model_forest.specs.declared.Window.{Window}
use Rattle.model_forest.specs.World.{World, image_at, parent_of, SameSize}
use Rattle.model_kept.specs.Cells.{cell_of, cell_part, hides}
use Rattle.model_kept.specs.Keeping.{own, Place}
use Rattle.r9_locate.specs.locate.Forms.{Form}
use Rattle.r9_cells.specs.Fitting.{hides_cell, hides_listed, hides_of, meets, shows_of, standing_cell, IsWindowAt}

-- places of one image, over those of others
abbrev pub with_places : ℕ → (Point → Bool) → (Place → Bool) → Place → Bool
with_places i places has place = if place.image == i then places place.at else has place

-- one image has another form, or none
abbrev pub with_form : ℕ → Option Form → (ℕ → Option Form) → ℕ → Option Form
with_form i form forms n = if n == i then form else forms n

-- the form of an image that gets another min
abbrev pub shifted_form : Point → Form → Form
shifted_form min form = record form { r = at_min form.r min }

-- the windows have places just in their cells that have a hidden point
abbrev pub HasCells : World → (Place → Bool) → Type 0
HasCells world has =
    (i p : ℕ) (x : Point) → parent_of world i ≡ Some p → holds (image_at world i).r x ≡ true
    → has (own i x) ≡ hides world i (cell_part (image_at world i).r (cell_of (image_at world i).r x))

-- a window stands on image p, at a place of its size
pub record StandsOn (world : World) (p : ℕ) (w : Window) : Type 0 where
  pub stands : parent_of world w.image ≡ Some p
  pub near : IsRectNear w.place
  pub size : SameSize w.place (image_at world w.image).r

-- the place is in a cell that image p hides with these windows, or in one that it shows
abbrev pub in_hidden : World → ℕ → List Window → Place → Bool
in_hidden world p windows place =
    let r = (image_at world place.image).r in
    holds r place.at && list_any (hides_of world p windows place.image (cell_of r place.at)) windows

abbrev pub in_shown : World → ℕ → List Window → Place → Bool
in_shown world p windows place =
    let r = (image_at world place.image).r in
    holds r place.at && list_any (shows_of world p windows place.image (cell_of r place.at)) windows

-- where the cell of a point of a window stands among these
abbrev pub standing_at : World → List Window → ℕ → Point → Rect
standing_at world windows i x = standing_cell windows i (image_at world i).r (cell_of (image_at world i).r x)

-- image p hides that cell with these windows
abbrev pub hides_point : World → ℕ → List Window → ℕ → Point → Bool
hides_point world p windows i x = hides_cell (image_at world p).r windows i (image_at world i).r (cell_of (image_at world i).r x)

-- in all cells that image p hides with these windows there are places, but for those of windows from one on that meet one of these
-- areas
abbrev pub HasTakenOff : World → ℕ → List Window → ℕ → List Rect → (Place → Bool) → Type 0
HasTakenOff world p windows from areas has =
    (at : ℕ) (w : Window) (x : Point) → IsWindowAt windows at w → holds (image_at world w.image).r x ≡ true
    → (from ≤ at → meets areas (standing_at world windows w.image x) ≡ false) → hides_point world p windows w.image x ≡ true → has (own w.image x) ≡ true

-- and in those that it shows there are none, but for the same
abbrev pub HasGivenOff : World → ℕ → List Window → ℕ → List Rect → (Place → Bool) → Type 0
HasGivenOff world p windows from areas has =
    (at : ℕ) (w : Window) (x : Point) → IsWindowAt windows at w → holds (image_at world w.image).r x ≡ true
    → (from ≤ at → meets areas (standing_at world windows w.image x) ≡ false) → hides_point world p windows w.image x ≡ false → has (own w.image x) ≡ false

-- a cell that a later list hides and that has no places, and that image p does not hide with these windows, is one of a window from
-- one on and meets one of these areas
abbrev pub HasLaterTaken : World → ℕ → List Window → ℕ → List Window → ℕ → List Rect → (Place → Bool) → Type 0
HasLaterTaken world p windows q later from areas has =
    (at : ℕ) (w : Window) (x : Point) → IsWindowAt later at w → holds (image_at world w.image).r x ≡ true
    → hides_point world q later w.image x ≡ true → has (own w.image x) ≡ false → hides_listed world p windows w.image (cell_of (image_at world w.image).r x) ≡ false
    → (from ≤ at) × (meets areas (standing_at world later w.image x) ≡ true)
