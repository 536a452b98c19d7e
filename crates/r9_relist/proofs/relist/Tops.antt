-- Which window is topmost where one of them comes or moves and the others stay as they are.
use Rattle.std.proofs.Common.{◌≡◌, ◌≢◌, ◌∙◌, ℕ, Bool, true, false, All, List, [], ◌∷◌, Option, Some, None, cond, refl, sym, ap, eq-eqb}
use Rattle.std.specs.Prelude.{◌==◌, is_none, not}
use Rattle.std.specs.Option.{option_map_or}
use Rattle.std.proofs.lemmas.Bool.{false_from_ne_true, false≢true, true≢false}
use Rattle.std.proofs.lemmas.Bool.Decides.{Decides-eqb}
use Rattle.r9_geom.specs.declared.Point.{Point}
use Rattle.r9_geom.specs.declared.Rect.{Rect}
use Rattle.r9_geom.specs.Geometry.{holds}
use Rattle.model_forest.specs.declared.Window.{Window}
use Rattle.model_forest.specs.Stack.{without}
use Rattle.model_forest.specs.View.{top_window}
use Rattle.model_forest.specs.World.{World, image_at}
use Rattle.model_forest.proofs.Views.{All-top_window, holds-top_window}
use Rattle.model_kept.specs.Keeping.{is_top, place_among}
use Rattle.r9_restack.specs.Changing.{StaysTop}
use Rattle.r9_restack.proofs.Orders.{top_is}
use Rattle.r9_relist.specs.relist.Leaving.{HasPlaceOf}
use Rattle.r9_relist.proofs.relist.Without.{place-without}

-- where it is not topmost it could as well not be there
pub top-but : (w : ℕ) (z : Point) (ws : List Window) → is_top ws w z ≡ false → top_window (without w ws) z ≡ top_window ws z
top-but w z [] none = refl
top-but w z (u ∷ us) none = by_tests (top-but w z us) (u.image == w) refl (holds u.place z) refl none
  where
    by_tests : (is_top us w z ≡ false → top_window (without w us) z ≡ top_window us z) → (b : Bool) → (u.image == w) ≡ b → (h : Bool) → holds u.place z ≡ h → option_map_or (λ (v : Window). v.image == w) (cond h (Some u) (top_window us z)) false ≡ false → top_window (cond (not b) (u ∷ without w us) (without w us)) z ≡ cond h (Some u) (top_window us z)
    by_tests rest true e true inside other = absurd (true≢false (sym e ∙ other))
    by_tests rest true e false inside other = rest other
    by_tests rest false e true inside other = ap (λ h. cond h (Some u) (top_window (without w us) z)) inside
    by_tests rest false e false inside other = ap (λ h. cond h (Some u) (top_window (without w us) z)) inside ∙ rest other

-- where it is topmost it stands
pub top_place : (w : ℕ) (z : Point) (ws : List Window) → All (λ v. place_among ws v.image ≡ v.place) ws → is_top ws w z ≡ true → holds (place_among ws w) z ≡ true
top_place w z ws one seen = by_top (top_window ws z) refl
  where
    by_top : (o : Option Window) → top_window ws z ≡ o → holds (place_among ws w) z ≡ true
    by_top None e = absurd (false≢true (sym (ap (λ o. option_map_or (λ (v : Window). v.image == w) o false) e) ∙ seen))
    by_top (Some v) e =
        let is : v.image ≡ w = (Decides-eqb v.image w).0 (sym (top_is ws w z v e) ∙ seen) in
        let place : place_among ws w ≡ v.place = ap (place_among ws) (sym is) ∙ All-top_window (λ (t : Window). place_among ws t.image ≡ t.place) ws z v one e in
        ap (λ (r : Rect). holds r z) place ∙ holds-top_window ws z v e

module _ (world : World) (p w : ℕ) (ws : List Window) (one : All (λ v. place_among (image_at world p).windows v.image ≡ v.place) (image_at world p).windows) (others : without w ws ≡ without w (image_at world p).windows) where
  -- the others keep their places
  pub others_places : (i : ℕ) → i ≢ w → place_among ws i ≡ place_among (image_at world p).windows i
  others_places i other =
      let old = (image_at world p).windows in
      sym (place-without w i ws other) ∙ ap (λ (vs : List Window). place_among vs i) others ∙ place-without w i old other

  -- and outside of where it stood and stands then the same one is topmost
  pub others_top : (area : Rect) → HasPlaceOf world p w area → (z : Point) → holds (image_at world p).r z ≡ true → holds area z ≡ false → is_top ws w z ≡ false → StaysTop world p ws w z
  others_top area covers z inside away none = record {
    tops = λ i. ap (λ o. option_map_or (λ (v : Window). v.image == i) o false) same;
    apart = λ v top is. true≢false (sym (top_is ws w z v top ∙ eq-eqb v.image w is) ∙ none);
    bare = ap is_none same;
  }
    where
      old : List Window
      old = (image_at world p).windows

      before : is_top old w z ≡ false
      before =
          false_from_ne_true (is_top old w z)
          (λ seen. true≢false (sym (covers z inside (top_place w z old one seen)) ∙ away))

      same : top_window ws z ≡ top_window old z
      same = sym (top-but w z ws none) ∙ ap (λ (vs : List Window). top_window vs z) others ∙ top-but w z old before
