-- Images that change beside a part.
use Rattle.std.proofs.Common.{◌≡◌, ◌+◌, ℕ, Bool, true, false, List, [], ◌∷◌, Option, Some, None, refl, sym, ap, subst, ◌∙◌}
use Rattle.std.specs.Prelude.{◌==◌, option_map, unwrap_or, if◌then◌else◌}
use Rattle.std.specs.Option.{option_map_or}
use Rattle.std.specs.List.{fold}
use Rattle.std.proofs.lemmas.Bool.{eqb-true, eqb-false}
use Rattle.r9_geom.specs.declared.Point.{Point}
use Rattle.r9_geom.specs.declared.Rect.{Rect}
use Rattle.r9_geom.specs.Geometry.{carried}
use Rattle.model_forest.specs.declared.Window.{Window}
use Rattle.model_forest.specs.World.{Image, World, image_at, no_image, parent_of, with_image}
use Rattle.model_forest.specs.View.{view}
use Rattle.model_forest.specs.Draw.{Drawing, after_draw, after_fill, after_load, with_canvas}
use Rattle.model_forest.specs.Stack.{after_lower, after_raise, after_restack, after_window, lowered, moved, raised, seen, with_windows, without}
use Rattle.model_forest.specs.Steps.{after_image, after_list, after_origin, after_release, after_replace, after_replace_on, after_set, carried_rect, outside, put_above}
use Rattle.model_forest.proofs.Changes.{with_image-at, with_image-other}
use Rattle.law_others.specs.apart.Apart.{Part, StaysInImages}

module _ (part : Part) where
  -- what stands on an image of the part is in it
  abbrev pub AreTogether : World → Type 0
  AreTogether w = (i p : ℕ) → part.image p → parent_of w i ≡ Some p → part.image i

  pub images_itself : (w : World) → StaysInImages part w w
  images_itself w = record { same = λ i is. refl; stands = λ i p is stands. stands }

  pub images_then : (a b c : World) → StaysInImages part a b → StaysInImages part b c → StaysInImages part a c
  images_then a b c one two = record {
    same = λ i is. two.same i is ∙ one.same i is;
    stands = λ i p is stands. one.stands i p is (two.stands i p is stands);
  }

  pub together_still : (a b : World) → AreTogether a → StaysInImages part a b → AreTogether b
  together_still a b together stays i p is stands = together i p is (stays.stands i p is stands)

  -- ---- one image changes, or goes

  slot_stays : (w : World) (n : ℕ) (slot : Option Image) → (part.image n → ⊥)
      → ((p : ℕ) → part.image p → option_map (λ s. s.parent) (unwrap_or slot no_image).standing ≡ Some p → parent_of w n ≡ Some p) → StaysInImages part w (with_image w n slot)
  slot_stays w n slot none still = record {
    same = λ i is. with_image-other w n i slot (λ at. none (subst part.image at is));
    stands = λ i p is stands. by i p is stands (i == n) refl;
  }
    where
      by : (i p : ℕ) → part.image p → parent_of (with_image w n slot) i ≡ Some p → (here : Bool) → (i == n) ≡ here → parent_of w i ≡ Some p
      by i p is stands true at =
          let same : i ≡ n = eqb-true i n at in
          subst (λ (m : ℕ). parent_of w m ≡ Some p) (sym same)
          (still p is (ap (λ (o : Option Image). option_map (λ s. s.parent) (unwrap_or o no_image).standing) (sym (with_image-at w n slot))
          ∙ ap (λ (m : ℕ). parent_of (with_image w n slot) m) (sym same) ∙ stands))
      by i p is stands false at = ap (λ (o : Option Image). option_map (λ s. s.parent) (unwrap_or o no_image).standing) (sym (with_image-other w n i slot (eqb-false i n at))) ∙ stands

  -- an image that stands where it stood
  put_stays : (w : World) (n : ℕ) (x : Image) → (part.image n → ⊥) → x.standing ≡ (image_at w n).standing → StaysInImages part w (with_image w n (Some x))
  put_stays w n x none still = slot_stays w n (Some x) none (λ p is stands. ap (λ s. option_map (λ s. s.parent) s) (sym still) ∙ stands)

  -- ---- pixels

  pub canvas_stays : (w : World) (n : ℕ) (area : Point → Bool) (new : Point → ℕ) → (part.image n → ⊥) → StaysInImages part w (with_canvas w n area new)
  canvas_stays w n area new none = put_stays w n _ none refl

  pub draw_stays : (w : World) (d : Drawing) → (part.image d.dst → ⊥) → StaysInImages part w (after_draw w d)
  unfolding after_draw
  draw_stays w d none = put_stays w d.dst _ none refl

  -- each is on another image
  abbrev pub DrawBeside : List Drawing → Type 0
  DrawBeside [] = Unit {0}
  DrawBeside (d ∷ ds) = (part.image d.dst → ⊥) × DrawBeside ds

  pub draws_stay : (w : World) (ds : List Drawing) → DrawBeside ds → StaysInImages part w (fold after_draw w ds)
  draws_stay w [] none = images_itself w
  draws_stay w (d ∷ ds) none = images_then w (after_draw w d) _ (draw_stays w d none.0) (draws_stay (after_draw w d) ds none.1)

  pub load_stays : (w : World) (n : ℕ) (r : Rect) (raws : Point → ℕ) → (part.image n → ⊥) → StaysInImages part w (after_load w n r raws)
  unfolding after_load
  load_stays w n r raws none = put_stays w n _ none refl

  pub fill_stays : (w : World) (n : ℕ) (r : Rect) (raw : ℕ) → (part.image n → ⊥) → StaysInImages part w (after_fill w n r raw)
  unfolding after_fill
  fill_stays w n r raw none = put_stays w n _ none refl

  pub set_stays : (w : World) (n : ℕ) (repl : Bool) (clipr : Rect) → (part.image n → ⊥) → StaysInImages part w (after_set w n repl clipr)
  unfolding after_set
  set_stays w n repl clipr none = put_stays w n _ none refl

  -- ---- lists of windows

  pub windows_stay : (w : World) (n : ℕ) (ws : List Window) → (part.image n → ⊥) → StaysInImages part w (with_windows w n ws)
  windows_stay w n ws none = put_stays w n _ none refl

  pub list_stays : (w : World) (i : ℕ) (change : List Window → List Window) → AreTogether w → (part.image i → ⊥) → StaysInImages part w (after_list w i change)
  list_stays w i change together none = by (parent_of w i) refl
    where
      by : (o : Option ℕ) → parent_of w i ≡ o → StaysInImages part w (option_map_or (λ parent. with_windows w parent (change (image_at w parent).windows)) o w)
      by None stands = images_itself w
      by (Some p) stands = windows_stay w p _ (λ is. none (together i p is stands))

  pub restack_stays : (order : List Window → List Window) (w : World) (group : List ℕ) → AreTogether w → (part.image 0 → ⊥) → ((i : ℕ) (rest : List ℕ) → group ≡ i ∷ rest → part.image i → ⊥)
      → StaysInImages part w (after_restack order w group)
  restack_stays order w [] together display none = images_itself w
  restack_stays order w (i ∷ rest) together display none = by (parent_of w i) refl
    where
      by : (o : Option ℕ) → parent_of w i ≡ o → StaysInImages part w (with_windows w (unwrap_or o 0) (order (image_at w (unwrap_or o 0)).windows))
      by None stands = windows_stay w 0 _ display
      by (Some p) stands = windows_stay w p _ (λ is. none i rest refl (together i p is stands))

  pub raise_stays : (w : World) (group : List ℕ) → AreTogether w → (part.image 0 → ⊥) → ((i : ℕ) (rest : List ℕ) → group ≡ i ∷ rest → part.image i → ⊥) → StaysInImages part w (after_raise w group)
  unfolding after_raise
  raise_stays w group together display none = restack_stays (raised group) w group together display none

  pub lower_stays : (w : World) (group : List ℕ) → AreTogether w → (part.image 0 → ⊥) → ((i : ℕ) (rest : List ℕ) → group ≡ i ∷ rest → part.image i → ⊥) → StaysInImages part w (after_lower w group)
  unfolding after_lower
  lower_stays w group together display none = restack_stays (lowered group) w group together display none

  -- a window that moves
  pub origin_stays : (w : World) (i : ℕ) (min corner : Point) → AreTogether w → (part.image i → ⊥) → StaysInImages part w (after_origin w i min corner)
  unfolding after_origin
  origin_stays w i min corner together none =
      let change = moved i (carried_rect (image_at w i).r (image_at w i).r.min corner) in
      images_then w (after_list w i change) _ (list_stays w i change together none)
      (slot_stays (after_list w i change) i _ none (λ p is stands. absurd (none (together i p is stands))))

  -- ---- images that come and go

  pub image_stays : (w : World) (n : ℕ) (r : Rect) (chan raw : ℕ) → (part.image n → ⊥) → StaysInImages part w (after_image w n r chan raw)
  unfolding after_image
  image_stays w n r chan raw none = slot_stays w n _ none (λ p is stands. absurd (let no : ◌≡◌ {A = Option ℕ} None (Some p) = stands in cc))

  pub window_stays : (w : World) (n p fill : ℕ) (r : Rect) (raw : ℕ) → (part.image n → ⊥) → (part.image p → ⊥) → StaysInImages part w (after_window w n p fill r raw)
  unfolding after_window
  window_stays w n p fill r raw none other =
      images_then w (with_image w n _) _
      (slot_stays w n _ none (λ q is stands. absurd (other (subst part.image (sym (some_is p q stands)) is))))
      (windows_stay (with_image w n _) p (record { image = n; place = r } ∷ (image_at w p).windows) other)
    where
      some_is : (p q : ℕ) → ◌≡◌ {A = Option ℕ} (Some p) (Some q) → p ≡ q
      some_is p q is = cc

  pub release_stays : (w : World) (i : ℕ) → AreTogether w → (part.image i → ⊥) → StaysInImages part w (after_release w i)
  unfolding after_release
  release_stays w i together none =
      images_then w (after_list w i (without i)) _ (list_stays w i (without i) together none)
      (slot_stays (after_list w i (without i)) i None none (λ p is stands. absurd (let no : ◌≡◌ {A = Option ℕ} None (Some p) = stands in cc)))

  -- ---- a window that gets another image

  pub replace_stays : (w : World) (i old : ℕ) (r : Rect) (corner : Point) (raw : ℕ) (keep : Bool) → AreTogether w → (part.image i → ⊥) → (part.image old → ⊥) → StaysInImages part w (after_replace w i old r corner raw keep)
  unfolding after_replace
  replace_stays w i old r corner raw keep together none other =
      let image = image_at w old in
      let pixel : Point → ℕ = λ p. if keep then view w old (carried p r.min image.r.min) else raw in
      let window : Image = record {
        r = r;
        clipr = r;
        repl = false;
        chan = image.chan;
        standing = image.standing;
        depth = image.depth;
        canvas = seen r [] pixel;
        windows = [];
      } in
      let first : Window = record { image = i; place = carried_rect r r.min corner } in
      let one : World = with_image w i (Some window) in
      let two : World = after_list one old (put_above first old) in
      let one_stays = slot_stays w i (Some window) none (λ p is stands. absurd (other (together old p is stands))) in
      let together_one = together_still w one together one_stays in
      let two_stays = list_stays one old (put_above first old) together_one other in
      images_then w one _ one_stays
      (images_then one two _ two_stays (list_stays two old (moved old (carried_rect image.r image.r.min outside)) (together_still one two together_one two_stays) other))

  pub replace_on_stays : (w : World) (i old parent fill : ℕ) (r : Rect) (corner : Point) (raw : ℕ) (keep : Bool) → AreTogether w → (part.image i → ⊥) → (part.image old → ⊥) → (part.image parent → ⊥)
      → StaysInImages part w (after_replace_on w i old parent fill r corner raw keep)
  unfolding after_replace_on
  replace_on_stays w i old parent fill r corner raw keep together none other ground =
      let image = image_at w old in
      let pixel : Point → ℕ = λ p. if keep then view w old (carried p r.min image.r.min) else raw in
      let window : Image = record {
        r = r;
        clipr = r;
        repl = false;
        chan = (image_at w parent).chan;
        standing = Some (record { parent = parent; fill = fill });
        depth = (image_at w parent).depth + 1;
        canvas = seen r [] pixel;
        windows = [];
      } in
      let first : Window = record { image = i; place = carried_rect r r.min corner } in
      let one : World = with_image w i (Some window) in
      let two : World = with_windows one parent (first ∷ (image_at w parent).windows) in
      let one_stays = slot_stays w i (Some window) none (λ p is stands. absurd (ground (subst part.image (sym (some_is parent p stands)) is))) in
      let together_one = together_still w one together one_stays in
      let two_stays = windows_stay one parent (first ∷ (image_at w parent).windows) ground in
      images_then w one _ one_stays
      (images_then one two _ two_stays (list_stays two old (moved old (carried_rect image.r image.r.min outside)) (together_still one two together_one two_stays) other))
    where
      some_is : (p q : ℕ) → ◌≡◌ {A = Option ℕ} (Some p) (Some q) → p ≡ q
      some_is p q is = cc
