-- Another order of the windows of an image, what it needs of where pixels lie, and the points that are done.
use Rattle.std.specs.Prelude.{◌≡◌, ◌<◌, ◌||◌, ℕ, Bool, true, false, List, Some, is_none, All}
use Rattle.r9_geom.specs.declared.Point.{Point}
use Rattle.r9_geom.specs.declared.Rect.{Rect}
use Rattle.r9_geom.specs.Geometry.{holds, strip}
use Rattle.model_forest.specs.declared.Window.{Window}
use Rattle.model_forest.specs.World.{World, image_at, parent_of, IsLive, IsWindowOf}
use Rattle.model_forest.specs.View.{top_window}
use Rattle.model_kept.specs.Keeping.{Place, own, outward, is_top, keeping, place_among}
use Rattle.r9_plane.specs.Pixels.{along}

-- another order of the windows of an image, at the same places
pub record IsReordering (world : World) (p : ℕ) (ws : List Window) : Type 0 where
  pub live : IsLive world p
  pub places : (i : ℕ) → place_among ws i ≡ place_among (image_at world p).windows i
  pub bare : (q : Point) → is_none (top_window ws q) ≡ is_none (top_window (image_at world p).windows q)
  pub stand : All (IsWindowOf world p) ws
  pub one : All (λ w. place_among ws w.image ≡ w.place) ws

-- the same image is topmost at a point before and after, or none
pub record IsSameTop (world : World) (p : ℕ) (ws : List Window) (q : Point) : Type 0 where
  pub tops : (i : ℕ) → is_top ws i q ≡ is_top (image_at world p).windows i q

-- there is a place for each pixel that the image shows, and for each that is hidden of its windows, before or after
pub record HasPlaces (world : World) (p : ℕ) (ws : List Window) (has : Place → Bool) : Type 0 where
  pub surface : (z : Point) → holds (image_at world p).r z ≡ true → has (keeping world p z) ≡ true
  pub old_own : (i : ℕ) (x : Point) → parent_of world i ≡ Some p → holds (image_at world i).r x ≡ true → is_top (image_at world p).windows i (outward world p i x) ≡ false → has (own i x) ≡ true
  pub new_own : (i : ℕ) (x : Point) → parent_of world i ≡ Some p → holds (image_at world i).r x ≡ true → is_top ws i (outward world p i x) ≡ false → has (own i x) ≡ true

-- the points that are done, and these side by side besides
abbrev pub more : Point → ℕ → (Point → Bool) → Point → Bool
more q n done z = holds (strip q n) z || done z

-- of these points side by side none is done
abbrev pub IsFresh : Point → ℕ → (Point → Bool) → Type 0
IsFresh q n done = (k : ℕ) → k < n → done (along q k) ≡ false

-- the points that are done, and those of a rectangle besides
abbrev pub more_in : Rect → (Point → Bool) → Point → Bool
more_in r done z = holds r z || done z

-- of a rectangle no point is done
abbrev pub IsFreshIn : Rect → (Point → Bool) → Type 0
IsFreshIn r done = (z : Point) → holds r z ≡ true → done z ≡ false
