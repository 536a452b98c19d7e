-- What becomes of the places of pixels when the list of one image changes.
use Rattle.std.specs.Prelude.{◌≡◌, ◌≢◌, ℕ, ◌==◌, Bool, true, false, List, ◌∷◌, Some, is_some, if◌then◌else◌}
use Rattle.std.specs.Option.{option_map_or}
use Rattle.r9_geom.specs.declared.Point.{Point}
use Rattle.r9_geom.specs.declared.Rect.{Rect}
use Rattle.r9_geom.specs.Geometry.{carried, holds}
use Rattle.model_forest.specs.Steps.{shifted_image}
use Rattle.model_forest.specs.declared.Window.{Window}
use Rattle.model_forest.specs.World.{World, image_at, parent_of, with_image}
use Rattle.model_forest.specs.Stack.{filled, new_window}
use Rattle.model_forest.specs.View.{top_window, is_bare, inward}
use Rattle.model_kept.specs.Keeping.{Place, own, outward, is_shown, keeping, with_kept}

-- two worlds that differ in the list of one image at most, in clip rectangles, flags and canvases
pub record SameButList (old new : World) (p : ℕ) : Type 0 where
  pub live : (n : ℕ) → is_some (new n) ≡ is_some (old n)
  pub r : (n : ℕ) → (image_at new n).r ≡ (image_at old n).r
  pub standing : (n : ℕ) → (image_at new n).standing ≡ (image_at old n).standing
  pub depth : (n : ℕ) → (image_at new n).depth ≡ (image_at old n).depth
  pub windows : (n : ℕ) → n ≢ p → (image_at new n).windows ≡ (image_at old n).windows

-- The pixels are moved to where they are kept when image p has another list: what p shows now at a point, of each of its
-- windows, stands where p keeps that point; what it shows of itself, too, filled where a window was; what of its windows
-- is hidden stands with them; and at no other place anything is changed. All that is read is read before.
pub record IsRestacked (old new : World) (p : ℕ) (before after : Place → ℕ) (fill : Point → ℕ) : Type 0 where
  pub covered : (q : Point) (w : Window) → holds (image_at new p).r q ≡ true → top_window (image_at new p).windows q ≡ Some w → after (keeping old p q) ≡ before (keeping old w.image (inward new w q))
  pub bare : (q : Point) → holds (image_at new p).r q ≡ true → is_bare (image_at new p).windows q ≡ true → after (keeping old p q) ≡ (if is_bare (image_at old p).windows q then before (keeping old p q) else fill q)
  pub hidden : (i : ℕ) (x : Point) → parent_of new i ≡ Some p → holds (image_at new i).r x ≡ true → is_shown new p i (outward new p i x) ≡ false → after (own i x) ≡ before (keeping old i x)
  pub others : (place : Place) → ((q : Point) → holds (image_at new p).r q ≡ true → place ≢ keeping old p q) → ((i : ℕ) (x : Point) → parent_of new i ≡ Some p → place ≢ own i x) → after place ≡ before place

-- an image gets another list of windows, and nothing else changes
abbrev pub with_list : World → ℕ → List Window → World
with_list shape p ws = with_image shape p (Some (record (image_at shape p) { windows = ws }))

-- what becomes bare at a point gets the fill of the window that was topmost there
abbrev pub fill_of_top : World → ℕ → Point → ℕ
fill_of_top world p q =
    option_map_or (λ w. filled world (image_at world p).chan w q) (top_window (image_at world p).windows q) 0

-- pixels that one image keeps, over those that others keep
abbrev pub with_own : ℕ → (Point → ℕ) → (Place → ℕ) → Place → ℕ
with_own i pixels kept place = if place.image == i then pixels place.at else kept place

-- nothing stands on the image
abbrev pub IsAlone : World → ℕ → Type 0
IsAlone world i = (n : ℕ) → parent_of world n ≢ Some i

-- a new window that is in no list yet, and then topmost in that of its parent
abbrev pub come_window : World → (Place → ℕ) → ℕ → ℕ → ℕ → Rect → ℕ → World
come_window shape kept i parent fill r raw = with_image shape i (Some (new_window (with_kept shape kept) parent fill r raw))

abbrev pub listed_window : World → (Place → ℕ) → ℕ → ℕ → ℕ → Rect → ℕ → World
listed_window shape kept i parent fill r raw =
    with_list (come_window shape kept i parent fill r raw) parent
    (record { image = i; place = r } ∷ (image_at (with_kept shape kept) parent).windows)

-- the pixels that are kept when an image gets another min in its own coordinates: its own stand at other points
abbrev pub with_shifted : ℕ → Point → Point → (Place → ℕ) → Place → ℕ
with_shifted i from to kept place = if place.image == i then kept (own i (carried place.at to from)) else kept place

-- the world with an image that has another min
abbrev pub shifted_shape : World → ℕ → Point → World
shifted_shape shape i min = with_image shape i (Some (shifted_image (image_at shape i) min))

-- pixels are put on an image where they are kept, at the bare points of an area
pub record IsPut (shape : World) (i : ℕ) (area : Point → Bool) (pixels : Point → ℕ) (before after : Place → ℕ) : Type 0 where
  pub put : (p : Point) → holds (image_at shape i).r p ≡ true → area p ≡ true → is_bare (image_at shape i).windows p ≡ true → after (keeping shape i p) ≡ pixels p
  pub others : (place : Place) → ((p : Point) → holds (image_at shape i).r p ≡ true → area p ≡ true → is_bare (image_at shape i).windows p ≡ true → place ≢ keeping shape i p) → after place ≡ before place
