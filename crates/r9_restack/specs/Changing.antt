-- Another list of the windows of an image, in which one of them comes, goes or moves and the others keep their places: what
-- was moved so far, and what is known of its pixels.
use Rattle.std.specs.Prelude.{◌≡◌, ◌≢◌, ◌⊎◌, ℕ, Bool, true, false, List, Option, Some, None, is_none, All, if◌then◌else◌}
use Rattle.r9_geom.specs.declared.Point.{Point}
use Rattle.r9_geom.specs.declared.Rect.{Rect}
use Rattle.r9_geom.specs.Geometry.{holds}
use Rattle.model_forest.specs.declared.Window.{Window}
use Rattle.model_forest.specs.World.{World, image_at, parent_of, IsLive, IsWindowOf}
use Rattle.model_forest.specs.View.{top_window, inward, is_bare}
use Rattle.model_kept.specs.Keeping.{Place, own, outward, is_top, is_shown, keeping, place_among}
use Rattle.model_kept.specs.Restack.{with_list}

-- nothing of a window shows where it stands, and none of these points shows it then
pub record IsUnseen (world : World) (p : ℕ) (ws : List Window) (i : ℕ) : Type 0 where
  pub before : (x : Point) → holds (image_at world i).r x ≡ true → is_shown world p i (outward world p i x) ≡ false
  pub after : (x : Point) → holds (image_at world i).r x ≡ true → is_top ws i (outward world p i x) ≡ false

-- another list of the windows of an image, in which all but image w that show somewhere keep their places, or come from where they
-- are not seen
pub record IsChange (world : World) (p : ℕ) (ws : List Window) (w : ℕ) : Type 0 where
  pub live : IsLive world p
  pub places : (i : ℕ) (z : Point) → i ≢ w → holds (image_at world p).r z ≡ true → is_top ws i z ≡ true → (place_among ws i ≡ place_among (image_at world p).windows i) ⊎ IsUnseen world p ws i
  pub stand : All (IsWindowOf world p) ws
  pub one : All (λ v. place_among ws v.image ≡ v.place) ws

-- at the points of the image that are done the pixels are where they are kept then: those of w are given; and elsewhere, and
-- with w, they are where they were
pub record IsChanged (world : World) (p : ℕ) (ws : List Window) (w : ℕ) (given fill : Point → ℕ) (before now : Place → ℕ) (done : Point → Bool) : Type 0 where
  pub covered : (q : Point) (v : Window) → done q ≡ true → top_window ws q ≡ Some v → v.image ≢ w → now (keeping world p q) ≡ before (keeping world v.image (inward world v q))
  pub of_w : (q : Point) (v : Window) → done q ≡ true → top_window ws q ≡ Some v → v.image ≡ w → now (keeping world p q) ≡ given (inward world v q)
  pub bare : (q : Point) → done q ≡ true → top_window ws q ≡ None → now (keeping world p q) ≡ (if is_bare (image_at world p).windows q then before (keeping world p q) else fill q)
  pub hidden : (i : ℕ) (x : Point) → i ≢ w → parent_of world i ≡ Some p → done (outward world p i x) ≡ true → is_top ws i (outward world p i x) ≡ false → now (own i x) ≡ before (keeping world i x)
  pub others : (place : Place) → ((q : Point) → done q ≡ true → place ≢ keeping world p q) → ((i : ℕ) (x : Point) → i ≢ w → parent_of world i ≡ Some p → done (outward world p i x) ≡ true → place ≢ own i x) → now place ≡ before place

-- a rectangle over which a was topmost, or nothing, shows b then, or the fill: what was shown is kept with a, unless that is w
pub record IsShownAnew (world : World) (p : ℕ) (w : ℕ) (a b : Option Window) (given fill : Point → ℕ) (r : Rect) (old new : Place → ℕ) : Type 0 where
  pub none : b ≡ None → (z : Point) → holds r z ≡ true → new (keeping world p z) ≡ fill z
  pub of_w : (v : Window) → b ≡ Some v → v.image ≡ w → (z : Point) → holds r z ≡ true → new (keeping world p z) ≡ given (inward world v z)
  pub owned : (v : Window) → b ≡ Some v → v.image ≢ w → (z : Point) → holds r z ≡ true → new (keeping world p z) ≡ old (own v.image (inward world v z))
  pub saved : (v : Window) → a ≡ Some v → v.image ≢ w → (z : Point) → holds r z ≡ true → new (own v.image (inward world v z)) ≡ old (keeping world p z)
  pub others : (place : Place) → ((z : Point) → holds r z ≡ true → place ≢ keeping world p z) → ((v : Window) → a ≡ Some v → v.image ≢ w → (z : Point) → holds r z ≡ true → place ≢ own v.image (inward world v z)) → new place ≡ old place

-- the same image, other than w, or none, is topmost at a point before and then
pub record StaysTop (world : World) (p : ℕ) (ws : List Window) (w : ℕ) (z : Point) : Type 0 where
  pub tops : (i : ℕ) → is_top ws i z ≡ is_top (image_at world p).windows i z
  pub apart : (v : Window) → top_window ws z ≡ Some v → v.image ≢ w
  pub bare : is_bare ws z ≡ is_bare (image_at world p).windows z

-- what is known of the pixels of w: those that are given and show then are its pixels before, and those that are hidden
-- then are with it
pub record IsGiven (world : World) (p : ℕ) (ws : List Window) (w : ℕ) (given : Point → ℕ) (before now as_before as_after : Place → ℕ) : Type 0 where
  pub was_same : (place : Place) → place.image ≢ w → as_before place ≡ before place
  pub pixels : (q : Point) (v : Window) → holds (image_at world p).r q ≡ true → top_window ws q ≡ Some v → v.image ≡ w → as_before (keeping world w (inward world v q)) ≡ given (inward world v q)
  pub now_same : (place : Place) → place.image ≢ w → as_after place ≡ now place
  pub hidden : (x : Point) → holds (image_at world w).r x ≡ true → is_shown (with_list world p ws) p w (outward (with_list world p ws) p w x) ≡ false → as_after (own w x) ≡ as_before (keeping world w x)

-- there is a place for each pixel that the image shows, and for each of its windows but w that is hidden, before or after
pub record HasPlacesBut (world : World) (p : ℕ) (ws : List Window) (w : ℕ) (has : Place → Bool) : Type 0 where
  pub surface : (z : Point) → holds (image_at world p).r z ≡ true → has (keeping world p z) ≡ true
  pub old_own : (i : ℕ) (x : Point) → i ≢ w → parent_of world i ≡ Some p → holds (image_at world i).r x ≡ true → is_top (image_at world p).windows i (outward world p i x) ≡ false → has (own i x) ≡ true
  pub new_own : (i : ℕ) (x : Point) → i ≢ w → parent_of world i ≡ Some p → holds (image_at world i).r x ≡ true → is_top ws i (outward world p i x) ≡ false → has (own i x) ≡ true

-- the same image, other than w, or nothing is topmost
pub record StaysAs (a b : Option Window) (w : ℕ) : Type 0 where
  pub none : b ≡ None → a ≡ None
  pub some : (v : Window) → b ≡ Some v → (u : Window) × (a ≡ Some u) × (u.image ≡ v.image) × (v.image ≢ w)

-- and otherwise: where nothing is topmost then, something was, and an image other than w that is topmost then was not
pub record IsOther (a b : Option Window) (w : ℕ) : Type 0 where
  pub uncovers : b ≡ None → is_none a ≡ false
  pub differs : (u v : Window) → a ≡ Some u → b ≡ Some v → v.image ≢ w → u.image ≢ v.image

-- another list of the windows of an image, in which one of them moves to where nothing of it shows and the others keep their places
pub record IsConcealing (world : World) (p : ℕ) (ws : List Window) : Type 0 where
  pub window : ℕ
  pub others : (i : ℕ) → i ≢ window → place_among ws i ≡ place_among (image_at world p).windows i
  pub change : IsChange world p ws p
  pub above : parent_of world window ≡ Some p
  pub gone : (z : Point) → holds (image_at world p).r z ≡ true → is_top ws window z ≡ false

-- another list of the windows of an image, in which one of them moves from where it is not seen and the others keep their places
pub record IsDisclosing (world : World) (p : ℕ) (ws : List Window) : Type 0 where
  pub window : ℕ
  pub others : (i : ℕ) → i ≢ window → place_among ws i ≡ place_among (image_at world p).windows i
  pub change : IsChange world p ws p
  pub above : parent_of world window ≡ Some p
  pub unseen : IsUnseen world p ws window
