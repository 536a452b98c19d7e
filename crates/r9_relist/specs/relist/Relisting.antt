-- Another list of the windows of an image, in which one window comes or moves, and what is known before.
use Rattle.std.specs.Prelude.{◌≡◌, ◌≢◌, ℕ, Bool, true, false, List, Some, if◌then◌else◌}
use Rattle.r9_geom.specs.declared.Point.{Point}
use Rattle.r9_geom.specs.declared.Rect.{Rect}
use Rattle.r9_geom.specs.Geometry.{holds, is_empty, meet}
use Rattle.model_forest.specs.declared.Window.{Window}
use Rattle.model_forest.specs.Stack.{without}
use Rattle.model_forest.specs.View.{is_bare}
use Rattle.model_forest.specs.World.{World, image_at, parent_of, IsForest, IsLive}
use Rattle.model_kept.specs.Cells.{cell_of, cell_part, hides, hides_on}
use Rattle.model_kept.specs.Keeping.{is_top, keeping, outward, own, place_among, with_kept, Place}
use Rattle.model_kept.specs.Restack.{fill_of_top, with_list}

-- the others stay as they are, and with that list it is a world of images
pub record IsRelisting (world : World) (p w : ℕ) (ws : List Window) : Type 0 where
  pub live : IsLive world p
  pub stands : parent_of world w ≡ Some p
  pub others : without w ws ≡ without w (image_at world p).windows
  pub forest : IsForest (with_list world p ws)

-- the windows of other images have places just in their cells that have a hidden point
abbrev pub HasOtherCells : World → ℕ → (Place → Bool) → Type 0
HasOtherCells world p has =
    (i q : ℕ) (x : Point) → q ≢ p → parent_of world i ≡ Some q → holds (image_at world i).r x ≡ true
    → has (own i x) ≡ hides world i (cell_part (image_at world i).r (cell_of (image_at world i).r x))

-- there is a place for each pixel that the image shows and for each that is hidden of its windows but w, which have places just
-- in their cells that have a hidden point
pub record HasPlacesBefore (world : World) (p w : ℕ) (has : Place → Bool) : Type 0 where
  pub surface : (z : Point) → holds (image_at world p).r z ≡ true → has (keeping world p z) ≡ true
  pub hidden : (i : ℕ) (x : Point) → i ≢ w → parent_of world i ≡ Some p → holds (image_at world i).r x ≡ true → is_top (image_at world p).windows i (outward world p i x) ≡ false → has (own i x) ≡ true
  pub cells : (i : ℕ) (x : Point) → i ≢ w → parent_of world i ≡ Some p → holds (image_at world i).r x ≡ true → has (own i x) ≡ hides_on world p i (cell_part (image_at world i).r (cell_of (image_at world i).r x))
  pub others : HasOtherCells world p has

-- the pixels that are kept before, with those that are given for w, and what fills is the fill of the window that is topmost
pub record IsAsBefore (world : World) (p w : ℕ) (ws : List Window) (given fill : Point → ℕ) (kept as_before : Place → ℕ) : Type 0 where
  pub others : (place : Place) → place.image ≢ w → as_before place ≡ kept place
  pub pixels : (x : Point) → holds (image_at world w).r x ≡ true → as_before (keeping world w x) ≡ given x
  pub fills : (q : Point) → holds (image_at world p).r q ≡ true → is_bare (image_at world p).windows q ≡ false → is_bare ws q ≡ true → fill q ≡ fill_of_top (with_kept world as_before) p q

-- what is common to two rectangles, and where that is nothing no points at the first one's min
abbrev pub meet_from : Rect → Rect → Rect
meet_from a b =
    let both = meet a b in
    if is_empty both then record { min = a.min; max = a.min } else both

-- a window stands where image p has no point, nor does it stand then at any point at which it stood
pub record IsAway (world : World) (p w : ℕ) (ws : List Window) : Type 0 where
  pub off : (z : Point) → holds (place_among (image_at world p).windows w) z ≡ true → holds (image_at world p).r z ≡ false
  pub apart : (z : Point) → holds (place_among (image_at world p).windows w) z ≡ true → holds (place_among ws w) z ≡ false
