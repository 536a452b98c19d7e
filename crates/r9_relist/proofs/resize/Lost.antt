-- What is known of the windows of an image that stands nowhere, at the points where they are topmost.
use Rattle.std.proofs.Common.{◌≡◌, ◌≢◌, ◌∙◌, ℕ, true, false, List, Some, refl, sym, ap, eq-eqb}
use Rattle.std.specs.Prelude.{◌==◌}
use Rattle.std.specs.Option.{option_map_or}
use Rattle.r9_geom.specs.declared.Point.{Point}
use Rattle.r9_geom.specs.declared.Rect.{Rect}
use Rattle.r9_geom.specs.Geometry.{carried, holds}
use Rattle.model_forest.specs.declared.Window.{Window}
use Rattle.model_forest.specs.View.{inward, top_window}
use Rattle.model_forest.specs.World.{World, image_at, parent_of, IsForest, IsLive}
use Rattle.model_forest.proofs.Listed.{parent-apart}
use Rattle.model_forest.proofs.Views.{All-top_window}
use Rattle.model_kept.specs.Keeping.{is_top, outward, own, place_among, HasOnePlaces, IsStanding, Place}
use Rattle.model_kept.proofs.Once.{places-forest}
use Rattle.model_kept.proofs.Storing.{carried-back, inward-inside, outward-inward, shown_by, window-at}
use Rattle.model_kept.proofs.Worlds.{standing-forest}

module _ (world : World) (i : ℕ) (live : IsLive world i) (ok : IsForest world) where
  standing : IsStanding world
  standing = standing-forest world ok

  places : HasOnePlaces world
  places = places-forest world ok

  abbrev ws : List Window
  ws = (image_at world i).windows

  -- the window that is topmost at a point, and the point of it that stands there
  pub top_stands : (q : Point) (v : Window) → top_window ws q ≡ Some v → parent_of world v.image ≡ Some i
  top_stands q v top = (window-at world standing i q v live top).stands

  pub top_apart : (q : Point) (v : Window) → top_window ws q ≡ Some v → v.image ≢ i
  top_apart q v top = parent-apart world ok v.image i (top_stands q v top)

  pub top_inside : (q : Point) (v : Window) → top_window ws q ≡ Some v → holds (image_at world v.image).r (inward world v q) ≡ true
  top_inside q v top = inward-inside world standing i q v live top

  pub top_out : (q : Point) (v : Window) → top_window ws q ≡ Some v → outward world i v.image (inward world v q) ≡ q
  top_out q v top = outward-inward world places i q v live top

  pub top_is : (q : Point) (v : Window) → top_window ws q ≡ Some v → is_top ws v.image q ≡ true
  top_is q v top = ap (λ o. option_map_or (λ (w : Window). w.image == v.image) o false) top ∙ eq-eqb v.image v.image refl

  -- of two points whose windows have one pixel there they are one
  pub top_same : (q z : Point) (v w : Window) → top_window ws q ≡ Some v → top_window ws z ≡ Some w → own v.image (inward world v q) ≡ own w.image (inward world w z) → q ≡ z
  top_same q z v w top also same =
      sym (top_out q v top) ∙ ap (λ (k : Place). outward world i k.image k.at) same ∙ top_out z w also

  -- the window at a point where one of its points stands
  pub top_by : (n : ℕ) (x : Point) → is_top ws n (outward world i n x) ≡ true → (v : Window) × (top_window ws (outward world i n x) ≡ Some v) × (own v.image (inward world v (outward world i n x)) ≡ own n x)
  top_by n x is =
      let q : Point = outward world i n x in
      let found = shown_by ws n q (top_window ws q) refl is in
      let v = found.0 in
      let place : place_among ws v.image ≡ v.place = All-top_window (λ u. place_among ws u.image ≡ u.place) ws q v (places i live) found.1 in
      let at_n : place_among ws n ≡ v.place = ap (λ m. place_among ws m) (sym found.2) ∙ place in (
        v,
        found.1,
        ap (λ m. own m (carried q v.place.min (image_at world m).r.min)) found.2
            ∙ ap (λ (r : Rect). own n (carried q r.min (image_at world n).r.min)) (sym at_n)
            ∙ ap (own n) (carried-back x (image_at world n).r.min (place_among ws n).min),
      )

  -- no place of the image is one of a window
  pub own_apart : (q z : Point) (v : Window) → top_window ws z ≡ Some v → own i q ≢ own v.image (inward world v z)
  own_apart q z v top same = top_apart z v top (sym (ap (λ (k : Place). k.image) same))

  -- and what does not stand on the image has none
  pub other_apart : (n : ℕ) (x z : Point) (v : Window) → parent_of world n ≢ Some i → top_window ws z ≡ Some v → own n x ≢ own v.image (inward world v z)
  other_apart n x z v apart top same = apart (ap (λ (k : Place). parent_of world k.image) same ∙ top_stands z v top)
