-- The pixels that are moved when an image that stands nowhere gets another rectangle: what it shows no more of a window goes to
-- that window, and what it shows newly comes from there.
use Rattle.std.specs.Prelude.{◌≡◌, ◌≢◌, ℕ, Bool, true, false, Some}
use Rattle.r9_geom.specs.declared.Point.{Point}
use Rattle.r9_geom.specs.declared.Rect.{Rect}
use Rattle.r9_geom.specs.Geometry.{holds}
use Rattle.model_forest.specs.declared.Window.{Window}
use Rattle.model_forest.specs.View.{inward, is_bare, top_window}
use Rattle.model_forest.specs.World.{World, image_at}
use Rattle.model_kept.specs.Keeping.{own, Place}

-- the image had the rectangle `from`, and at the point, where this window is topmost, it shows it no more; or newly
pub record IsLost (world : World) (i : ℕ) (from : Rect) (q : Point) (v : Window) : Type 0 where
  pub had : holds from q ≡ true
  pub gone : holds (image_at world i).r q ≡ false
  pub top : top_window (image_at world i).windows q ≡ Some v

pub record IsWon (world : World) (i : ℕ) (from : Rect) (q : Point) (v : Window) : Type 0 where
  pub missed : holds from q ≡ false
  pub here : holds (image_at world i).r q ≡ true
  pub top : top_window (image_at world i).windows q ≡ Some v

-- at the points that are done the windows' pixels are where they are kept then; the image had the pixels `shown`
pub record IsMovedFor (world : World) (i : ℕ) (from : Rect) (shown : Point → ℕ) (before now : Place → ℕ) (done : Point → Bool) : Type 0 where
  pub lost : (q : Point) (v : Window) → done q ≡ true → IsLost world i from q v → now (own v.image (inward world v q)) ≡ shown q
  pub won : (q : Point) (v : Window) → done q ≡ true → IsWon world i from q v → now (own i q) ≡ before (own v.image (inward world v q))
  pub others : (place : Place) → ((q : Point) (v : Window) → done q ≡ true → IsLost world i from q v → place ≢ own v.image (inward world v q)) → ((q : Point) (v : Window) → done q ≡ true → IsWon world i from q v → place ≢ own i q) → now place ≡ before place

-- all are, and ground that the image had not is raw
pub record IsResized (world : World) (i : ℕ) (from : Rect) (raw : ℕ) (before after : Place → ℕ) : Type 0 where
  pub stays : (q : Point) → holds from q ≡ true → holds (image_at world i).r q ≡ true → after (own i q) ≡ before (own i q)
  pub bare : (q : Point) → holds from q ≡ false → holds (image_at world i).r q ≡ true → is_bare (image_at world i).windows q ≡ true → after (own i q) ≡ raw
  pub lost : (q : Point) (v : Window) → IsLost world i from q v → after (own v.image (inward world v q)) ≡ before (own i q)
  pub won : (q : Point) (v : Window) → IsWon world i from q v → after (own i q) ≡ before (own v.image (inward world v q))
  pub others : (place : Place) → place.image ≢ i → ((q : Point) (v : Window) → IsLost world i from q v → place ≢ own v.image (inward world v q)) → after place ≡ before place

-- the windows have places for the pixels that they get, and for those that the image shows newly, and the image for its own
pub record HasPlacesFor (world : World) (i : ℕ) (from : Rect) (has : Place → Bool) : Type 0 where
  pub whole : (q : Point) → holds (image_at world i).r q ≡ true → has (own i q) ≡ true
  pub lost : (q : Point) (v : Window) → IsLost world i from q v → has (own v.image (inward world v q)) ≡ true
  pub won : (q : Point) (v : Window) → IsWon world i from q v → has (own v.image (inward world v q)) ≡ true
