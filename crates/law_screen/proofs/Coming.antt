-- Each image stands once in the list of the other on which it stands, still, once one has come, or taken the place of another.
use Rattle.std.proofs.Common.{◌≡◌, ◌+◌, ℕ, Bool, false, List, [], ◌∷◌, Option, Some, None, refl, sym, ap, subst, ◌∙◌}
use Rattle.std.specs.Prelude.{◌==◌, All, if◌then◌else◌}
use Rattle.std.specs.Option.{option_map_or}
use Rattle.std.proofs.lemmas.Bool.{eqb-true, false_from_ne_true}
use Rattle.std.proofs.lemmas.List.Elements.{All-head, All-tail, All-weaker}
use Rattle.r9_geom.specs.declared.Point.{Point}
use Rattle.r9_geom.specs.declared.Rect.{Rect}
use Rattle.r9_geom.specs.Geometry.{carried}
use Rattle.model_forest.specs.declared.Window.{Window}
use Rattle.model_forest.specs.World.{Image, World, image_at, parent_of, with_image}
use Rattle.model_forest.specs.View.{view}
use Rattle.model_forest.specs.Stack.{after_window, new_window, seen, with_windows}
use Rattle.model_forest.specs.Steps.{after_image, after_list, after_replace, after_replace_on, carried_rect, new_image, outside, put_above}
use Rattle.model_forest.proofs.Listed.{listed-put_above, listed-put_above_new, once-new, once-put_above}
use Rattle.model_forest.proofs.Sound.{is_listed}
use Rattle.law_shown.proofs.shown.Tests.{first_true, neither, same, second_true}
use Rattle.law_screen.proofs.Placed.{ArePlaced, Beside, all_beside, none_nowhere}
use Rattle.law_screen.proofs.Growing.{AreGrown, NobodyOn, at_other, ground_of, kind_of, moved_grown, nowhere_grown, one_above, standing_grown}

-- a list has no window of an image if none is its
unlisted : (n : ℕ) (ws : List Window) → All (λ v. (v.image == n) ≡ false) ws → is_listed ws n ≡ false
unlisted n [] none = refl
unlisted n (v ∷ ws) none = neither (v.image == n) (is_listed ws n) (All-head (λ (v : Window). (v.image == n) ≡ false) v ws none) (unlisted n ws (All-tail (λ (v : Window). (v.image == n) ≡ false) v ws none))

module _ (w : World) (n : ℕ) (free : w n ≡ None) (nobody : NobodyOn w n) (placed : ArePlaced w) (grown : AreGrown w) where
  new_in : (p : ℕ) → is_listed (image_at w p).windows n ≡ false
  new_in p =
      unlisted n (image_at w p).windows
      (All-weaker (Beside w n p) (λ v. (v.image == n) ≡ false) (λ v one. one.1) (image_at w p).windows (all_beside w n p (none_nowhere w n free) placed))

  pub image_comes : (r : Rect) (chan raw : ℕ) → AreGrown (after_image w n r chan raw)
  unfolding after_image
  image_comes r chan raw = nowhere_grown w n (new_image r chan raw) refl refl nobody grown

  -- topmost on another
  topmost_comes : (p : ℕ) (x : Image) (place : Rect) → x.windows ≡ [] → ground_of x ≡ Some p → (p == n) ≡ false → kind_of x ≡ one_above (kind_of (image_at w p))
      → AreGrown (with_windows (with_image w n (Some x)) p (record { image = n; place = place } ∷ (image_at w p).windows))
  topmost_comes p x place bare ground apart above =
      let first : Window = record { image = n; place = place } in
      let ws = (image_at w p).windows in
      standing_grown w n p x (first ∷ ws) bare ground apart above (λ m is. second_true (n == m) _ is) (first_true (n == n) _ (same n)) (once-new first ws (new_in p) (grown.once p)) nobody grown

  pub window_comes : (p fill : ℕ) (r : Rect) (raw : ℕ) → (p == n) ≡ false → AreGrown (after_window w n p fill r raw)
  unfolding after_window
  window_comes p fill r raw apart = topmost_comes p (new_window w p fill r raw) r refl refl apart refl

  -- directly above another
  above_comes : (old : ℕ) (x : Image) (place : Rect) → (old == n) ≡ false → x.windows ≡ [] → ground_of x ≡ parent_of w old → kind_of x ≡ kind_of (image_at w old)
      → AreGrown (after_list (with_image w n (Some x)) old (put_above (record { image = n; place = place }) old))
  above_comes old x place other bare ground kind = by (parent_of more old) refl
    where
      more : World
      more = with_image w n (Some x)

      first : Window
      first = record { image = n; place = place }

      stood : (o : Option ℕ) → parent_of more old ≡ o → parent_of w old ≡ o
      stood o at = sym (ap ground_of (at_other w n old (Some x) other)) ∙ at

      by : (o : Option ℕ) → parent_of more old ≡ o → AreGrown (option_map_or (λ q. with_windows more q (put_above first old (image_at more q).windows)) o more)
      by None at = nowhere_grown w n x bare (ground ∙ stood None at) nobody grown
      by (Some q) at =
          let was = stood (Some q) at in
          let apart : (q == n) ≡ false = false_from_ne_true (q == n) (λ is. nobody old (was ∙ ap (λ (k : ℕ). Some k) (eqb-true q n is))) in
          let ws = (image_at w q).windows in
          subst (λ (y : Image). AreGrown (with_windows more q (put_above first old y.windows))) (sym (at_other w n q (Some x) apart))
          (standing_grown w n q x (put_above first old ws) bare (ground ∙ was) apart (kind ∙ grown.above old q was) (λ m is. listed-put_above first old ws m is)
          (listed-put_above_new first old ws (grown.listed old q was)) (once-put_above first old ws (new_in q) (grown.once q)) nobody grown)

  module _ (old : ℕ) (r : Rect) (corner : Point) (raw : ℕ) (keep : Bool) where
    abbrev image : Image
    image = image_at w old

    abbrev pixel : Point → ℕ
    pixel p = if keep then view w old (carried p r.min image.r.min) else raw

    pub replaced_comes : (old == n) ≡ false → AreGrown (after_replace w n old r corner raw keep)
    unfolding after_replace
    replaced_comes other =
        moved_grown _ old (carried_rect image.r image.r.min outside)
        (above_comes old (record {
          r = r;
          clipr = r;
          repl = false;
          chan = image.chan;
          standing = image.standing;
          depth = image.depth;
          canvas = seen r [] pixel;
          windows = [];
        }) (carried_rect r r.min corner) other refl refl refl)

    pub replaced_on_comes : (p fill : ℕ) → (p == n) ≡ false → AreGrown (after_replace_on w n old p fill r corner raw keep)
    unfolding after_replace_on
    replaced_on_comes p fill apart =
        moved_grown _ old (carried_rect image.r image.r.min outside)
        (topmost_comes p (record {
          r = r;
          clipr = r;
          repl = false;
          chan = (image_at w p).chan;
          standing = Some (record { parent = p; fill = fill });
          depth = (image_at w p).depth + 1;
          canvas = seen r [] pixel;
          windows = [];
        }) (carried_rect r r.min corner) refl refl apart refl)
