-- Cells that another list of an image does not reach: it hides those that were hidden, and no others.
use Rattle.std.proofs.Common.{◌≡◌, ◌≢◌, ◌∙◌, ℕ, ◌<◌, ◌≤◌, Bool, true, false, All, List, [], ◌∷◌, Option, Some, None, refl, sym, ap, subst, ⊎_elim, arith}
use Rattle.std.specs.Prelude.{◌&&◌, ◌||◌, ◌==◌, not, if◌then◌else◌}
use Rattle.std.specs.Option.{option_map_or}
use Rattle.std.specs.List.{list_any}
use Rattle.std.proofs.lemmas.Bool.{and_from, and_parts, cases_eq, cases_lt, false_from_ne_true, false≢true, or_parts, true≢false}
use Rattle.std.proofs.lemmas.Bool.Decides.{Decides-eqb}
use Rattle.std.proofs.lemmas.Int.{ints}
use Rattle.r9_geom.specs.declared.Point.{Point}
use Rattle.r9_geom.specs.declared.Rect.{Rect}
use Rattle.r9_geom.specs.Geometry.{carried, holds, is_empty, is_inside, meet}
use Rattle.r9_geom.proofs.GeometryLemmas.{bounds_of, same_tests}
use Rattle.model_forest.specs.declared.Window.{Window}
use Rattle.model_forest.specs.Stack.{without}
use Rattle.model_forest.specs.View.{top_window}
use Rattle.model_forest.specs.World.{Image, World, image_at, no_rect, parent_of, IsForest, IsLive, IsWindowOf}
use Rattle.model_forest.proofs.Listed.{All-listed, parent-apart}
use Rattle.model_kept.specs.Cells.{above, cell_of, cell_part, hides_on, hides_under}
use Rattle.model_kept.specs.Keeping.{is_hidden, is_shown, is_top, outward, own, place_among, Place}
use Rattle.model_kept.specs.Restack.{with_list}
use Rattle.model_kept.proofs.Hiding.{hidden_hides, hides_hidden, holds-carried_both, place-inside}
use Rattle.model_kept.proofs.Once.{places-forest}
use Rattle.r9_cells.specs.Fitting.{hides_cell, meets, standing_cell, IsWindowAt}
use Rattle.r9_cells.proofs.Still.{off_areas, placed_listed}
use Rattle.r9_pixels.specs.Places.{in_hidden, standing_at, HasCells, HasGivenOff, HasTakenOff}
use Rattle.r9_pixels.proofs.Points.{in_own_cell, of_image}
use Rattle.r9_restack.specs.Changing.{IsChange}
use Rattle.r9_restack.specs.Moving.{IsReordering, IsSameTop}
use Rattle.r9_restack.specs.Stacks.{IsFront}
use Rattle.r9_region.specs.Region.{covers}
use Rattle.r9_relist.specs.relist.Leaving.{others, HasPlaceOf, IsGoing}
use Rattle.r9_relist.specs.relist.Relisting.{IsRelisting}
use Rattle.r9_relist.proofs.relist.Covering.{in_hidden_is}
use Rattle.r9_relist.proofs.relist.Front.{at_listed, front_above}
use Rattle.r9_relist.proofs.relist.Relisted.{list_at, list_other, list_parent, relist_apart, relist_hidden, relist_listed, relist_one, relist_placed, relist_stand}
use Rattle.r9_relist.proofs.relist.Tops.{others_places, top-but, top_place}
use Rattle.r9_relist.proofs.relist.Uncovering.{leaving_change, leaving_outside, live_below}
use Rattle.r9_relist.proofs.relist.Without.{place-without, top-without, without-apart}

-- whether a point of a window on p is hidden
hidden_is : (world : World) (p i : ℕ) (x : Point) → parent_of world i ≡ Some p → is_hidden world i x ≡ (if is_shown world p i (outward world p i x) then false else true)
hidden_is world p i x stands = ap (λ o. option_map_or (λ (m : ℕ). if is_shown world m i (outward world m i x) then false else true) o false) stands

-- where all points of a part that are shown then were shown before, it is hidden then where it was
hides_more : (old new : World) (p i : ℕ) (part : Rect) → parent_of old i ≡ Some p → parent_of new i ≡ Some p → ((y : Point) → holds part y ≡ true → holds (place_among (image_at new p).windows i) (outward new p i y) ≡ true) → ((y : Point) → holds part y ≡ true → is_shown new p i (outward new p i y) ≡ true → is_shown old p i (outward old p i y) ≡ true) → hides_on old p i part ≡ true → hides_on new p i part ≡ true
hides_more old new p i part was stands placed shown h =
    let found = hides_hidden old p i part was h in
    let x = found.0 in
    hidden_hides new p i part stands (placed_listed (image_at new p).windows i (outward new p i x) (placed x found.1)) placed
    (x, found.1, hidden_is new p i x stands ∙ by_shown x found.1 found.2 (is_shown new p i (outward new p i x)) refl)
  where
    by_shown : (x : Point) → holds part x ≡ true → is_hidden old i x ≡ true → (b : Bool) → is_shown new p i (outward new p i x) ≡ b → (if b then false else true) ≡ true
    by_shown x within hidden false e = refl
    by_shown x within hidden true e =
        absurd (false≢true (sym (ap (λ b. if b then false else true) (shown x within e)) ∙ sym (hidden_is old p i x was) ∙ hidden))

-- a list that has the others as another one has them shows what that shows where image w is not topmost
stays_top : (a b : List Window) (w i : ℕ) (q : Point) → without w a ≡ without w b → i ≢ w → is_top b w q ≡ false → is_top a i q ≡ true → is_top b i q ≡ true
stays_top a b w i q same other none seen = by_top (top_window a q) refl
  where
    named : Option Window → Bool
    named o = option_map_or (λ (v : Window). v.image == i) o false

    by_top : (o : Option Window) → top_window a q ≡ o → is_top b i q ≡ true
    by_top None e = absurd (false≢true (sym (ap named e) ∙ seen))
    by_top (Some v) e =
        let is : v.image ≡ i = (Decides-eqb v.image i).0 (sym (ap named e) ∙ seen) in
        ap named
        (sym (top-but w q b none) ∙ ap (λ (ws : List Window). top_window ws q) (sym same) ∙ top-without w q a v e (λ here. other (sym is ∙ here)))
        ∙ sym (ap named e) ∙ seen

-- a point of a cell stands where that stands, which has no point of areas that it does not meet
away : (areas : List Rect) (r part : Rect) (to y : Point) → meets areas (record { min = carried part.min r.min to; max = carried part.max r.min to }) ≡ false → holds part y ≡ true → list_any (λ a. holds a (carried y r.min to)) areas ≡ false
away areas r part to y off h =
    off_areas areas (record { min = carried part.min r.min to; max = carried part.max r.min to }) (carried y r.min to) off (holds-carried_both part r.min to y ∙ h)

pub none_in : (q : Point) → holds no_rect q ≡ false
none_in q = false_from_ne_true (holds no_rect q) (λ h. let b = bounds_of no_rect q h in absurd (omega (arith, ints, b.left, b.right)))

neither : (a b : Bool) → a ≡ false → b ≡ false → (a || b) ≡ false
neither a b none also = ap (λ c. c || b) none ∙ also

-- ---- a window that keeps its place

module _ (world : World) (p : ℕ) (ws : List Window) (i : ℕ) (live : IsLive world p) (stands : parent_of world i ≡ Some p) (apart : i ≢ p) (place : place_among ws i ≡ place_among (image_at world p).windows i) (placed : (y : Point) → holds (image_at world i).r y ≡ true → holds (place_among (image_at world p).windows i) (outward world p i y) ≡ true) where
  abbrev r : Rect
  r = (image_at world i).r

  abbrev new : World
  new = with_list world p ws

  then_stands : parent_of new i ≡ Some p
  then_stands = list_parent world p i ws live ∙ stands

  then_hides : (k : ℕ) → hides_on new p i (cell_part r k) ≡ hides_cell (image_at world p).r ws i r k
  then_hides k =
      let at_p = list_at world p ws in
      let at_i = list_other world p i ws apart in
      λ j. hides_under (at_p j).r (at_p j).windows i (at_i j).r (cell_part r k)

  then_out : (y : Point) → outward new p i y ≡ outward world p i y
  then_out y =
      let at_p = list_at world p ws in
      let at_i = list_other world p i ws apart in
      (λ j. carried y (at_i j).r.min (place_among (at_p j).windows i).min) ∙ ap (λ (s : Rect). carried y r.min s.min) place

  then_placed : (y : Point) → holds r y ≡ true → holds (place_among (image_at new p).windows i) (outward new p i y) ≡ true
  then_placed y h =
      let at_p = list_at world p ws in
      ap (holds (place_among (image_at new p).windows i)) (then_out y)
      ∙ (λ j. holds (place_among (at_p j).windows i) (outward world p i y))
      ∙ ap (λ (s : Rect). holds s (outward world p i y)) place
      ∙ placed y h

  then_shown : (y : Point) → is_shown new p i (outward new p i y) ≡ (holds (image_at world p).r (outward world p i y) && is_top ws i (outward world p i y))
  then_shown y =
      let at_p = list_at world p ws in
      ap (is_shown new p i) (then_out y) ∙ (λ j. holds (at_p j).r (outward world p i y) && is_top (at_p j).windows i (outward world p i y))

  -- a cell in which it stays topmost is hidden then only where it was
  was_hidden : (k : ℕ) → ((y : Point) → holds (cell_part r k) y ≡ true → holds (image_at world p).r (outward world p i y) ≡ true → is_top (image_at world p).windows i (outward world p i y) ≡ true → is_top ws i (outward world p i y) ≡ true) → hides_cell (image_at world p).r ws i r k ≡ true → hides_on world p i (cell_part r k) ≡ true
  was_hidden k stays h =
      hides_more new world p i (cell_part r k) then_stands stands (λ y within. placed y (of_image r k y within))
      (λ y within shown.
      let q = outward world p i y in
      let both = and_parts (holds (image_at world p).r q) (is_top (image_at world p).windows i q) shown in
      then_shown y ∙ and_from (holds (image_at world p).r q) (is_top ws i q) both.0 (stays y within both.0 both.1))
      (then_hides k ∙ h)

  -- and where it was topmost before it was hidden only where it is
  is_hid : (k : ℕ) → ((y : Point) → holds (cell_part r k) y ≡ true → holds (image_at world p).r (outward world p i y) ≡ true → is_top ws i (outward world p i y) ≡ true → is_top (image_at world p).windows i (outward world p i y) ≡ true) → hides_on world p i (cell_part r k) ≡ true → hides_cell (image_at world p).r ws i r k ≡ true
  is_hid k stays h =
      sym (then_hides k)
      ∙ hides_more world new p i (cell_part r k) stands then_stands (λ y within. then_placed y (of_image r k y within))
      (λ y within shown.
      let q = outward world p i y in
      let both = and_parts (holds (image_at world p).r q) (is_top ws i q) (sym (then_shown y) ∙ shown) in
      and_from (holds (image_at world p).r q) (is_top (image_at world p).windows i q) both.0 (stays y within both.0 both.1))
      h

  -- a cell in which it is topmost at the same points is hidden alike
  same_cells : (k : ℕ) → ((y : Point) → holds (cell_part r k) y ≡ true → holds (image_at world p).r (outward world p i y) ≡ true → is_top ws i (outward world p i y) ≡ is_top (image_at world p).windows i (outward world p i y)) → hides_cell (image_at world p).r ws i r k ≡ hides_on world p i (cell_part r k)
  same_cells k tops =
      same_tests (hides_cell (image_at world p).r ws i r k) (hides_on world p i (cell_part r k))
      (was_hidden k (λ y within below seen. tops y within below ∙ seen))
      (is_hid k (λ y within below seen. sym (tops y within below) ∙ seen))

-- ---- one window comes or moves

module _ (world : World) (p w : ℕ) (ws : List Window) (is : IsRelisting world p w ws) (one_old : All (λ v. place_among (image_at world p).windows v.image ≡ v.place) (image_at world p).windows) where
  abbrev had : List Window
  had = (image_at world p).windows

  -- where a point of a window stands then
  abbrev there : ℕ → Point → Point
  there i y = carried y (image_at world i).r.min (place_among ws i).min

  window_stands : (at : ℕ) (v : Window) → IsWindowAt ws at v → parent_of world v.image ≡ Some p
  window_stands at v window =
      let found = All-listed (IsWindowOf world p) ws v.image (relist_stand world p ws is.live is.forest) (at_listed ws at v window) in
      subst (λ n. parent_of world n ≡ Some p) found.1 found.2.stands

  same_place : (i : ℕ) → i ≢ w → place_among ws i ≡ place_among had i
  same_place i other = others_places world p w ws one_old is.others i other

  out_is : (i : ℕ) → i ≢ w → (y : Point) → there i y ≡ outward world p i y
  out_is i other y = ap (λ (s : Rect). carried y (image_at world i).r.min s.min) (same_place i other)

  was_placed : (i : ℕ) → i ≢ w → parent_of world i ≡ Some p → (y : Point) → holds (image_at world i).r y ≡ true → holds (place_among had i) (outward world p i y) ≡ true
  was_placed i other stands y h =
      sym (λ j. holds (same_place i other j) (out_is i other y j)) ∙ relist_placed world p ws is.live is.forest i y stands h

  apart_from : (i : ℕ) → parent_of world i ≡ Some p → i ≢ p
  apart_from i stands = relist_apart world p ws is.live is.forest i stands

  -- the first windows are hidden alike
  first_same : (n at : ℕ) (v : Window) → IsFront had ws w n → IsWindowAt ws at v → at < n → (v.image ≢ w) × ((k : ℕ) → hides_cell (image_at world p).r ws v.image (image_at world v.image).r k ≡ hides_on world p v.image (cell_part (image_at world v.image).r k))
  first_same n at v front window below = (found.0, same)
    where
      found : (v.image ≢ w) × (above v.image ws ≡ above v.image had)
      found = front_above had ws w n at v front window below

      out : Rect → ℕ → Rect
      out to k =
          let r = (image_at world v.image).r in
          record { min = carried (cell_part r k).min r.min to.min; max = carried (cell_part r k).max r.min to.min }

      same : (k : ℕ) → hides_cell (image_at world p).r ws v.image (image_at world v.image).r k ≡ hides_on world p v.image (cell_part (image_at world v.image).r k)
      same k =
          let place = same_place v.image found.0 in
          λ j. not (is_inside (out (place j) k) (image_at world p).r) || list_any (λ (u : Window). not (is_empty (meet u.place (out (place j) k)))) (found.1 j)

  -- where it does not stand then it is not topmost
  not_then : (q : Point) → holds (place_among ws w) q ≡ false → is_top ws w q ≡ false
  not_then q gone = false_from_ne_true (is_top ws w q) (λ seen. true≢false (sym (top_place w q ws (relist_one world p ws is.live is.forest) seen) ∙ gone))

  not_before : (q : Point) → holds (place_among had w) q ≡ false → is_top had w q ≡ false
  not_before q gone = false_from_ne_true (is_top had w q) (λ seen. true≢false (sym (top_place w q had one_old seen) ∙ gone))

  -- a cell of another window over which it does not come is hidden only where it was
  before_hidden : (i k : ℕ) → i ≢ w → parent_of world i ≡ Some p → ((y : Point) → holds (cell_part (image_at world i).r k) y ≡ true → is_top ws w (there i y) ≡ false) → hides_cell (image_at world p).r ws i (image_at world i).r k ≡ true → hides_on world p i (cell_part (image_at world i).r k) ≡ true
  before_hidden i k other stands none =
      was_hidden world p ws i is.live stands (apart_from i stands) (same_place i other) (was_placed i other stands) k
      (λ y within below seen. stays_top had ws w i (outward world p i y) (sym is.others) other (ap (is_top ws w) (sym (out_is i other y)) ∙ none y within) seen)

  -- and one over which it did not stand was hidden only where it is
  then_hidden : (i k : ℕ) → i ≢ w → parent_of world i ≡ Some p → ((y : Point) → holds (cell_part (image_at world i).r k) y ≡ true → holds (image_at world p).r (there i y) ≡ true → is_top had w (there i y) ≡ false) → hides_on world p i (cell_part (image_at world i).r k) ≡ true → hides_cell (image_at world p).r ws i (image_at world i).r k ≡ true
  then_hidden i k other stands none =
      is_hid world p ws i is.live stands (apart_from i stands) (same_place i other) (was_placed i other stands) k
      (λ y within below seen.
      let out = out_is i other y in
      stays_top ws had w i (outward world p i y) is.others other (ap (is_top had w) (sym out) ∙ none y within (ap (holds (image_at world p).r) out ∙ below)) seen)

  -- the others have places just in their cells that have a hidden point
  abbrev OtherCells : (Place → Bool) → Type 0
  OtherCells has = (i : ℕ) (x : Point) → i ≢ w → parent_of world i ≡ Some p → holds (image_at world i).r x ≡ true → has (own i x) ≡ hides_on world p i (cell_part (image_at world i).r (cell_of (image_at world i).r x))

  -- a window with a cell that does not meet where it stands then is another
  off_other : (areas : List Rect) (i : ℕ) (x : Point) → parent_of world i ≡ Some p → holds (image_at world i).r x ≡ true → ((q : Point) → list_any (λ a. holds a q) areas ≡ false → holds (place_among ws w) q ≡ false) → meets areas (standing_at world ws i x) ≡ false → i ≢ w
  off_other areas i x stands inside gone off same =
      let r = (image_at world i).r in
      let here : holds (place_among ws w) (there i x) ≡ true = ap (λ m. holds (place_among ws m) (there i x)) (sym same) ∙ relist_placed world p ws is.live is.forest i x stands inside in
      true≢false (sym here ∙ gone (there i x) (away areas r (cell_part r (cell_of r x)) (place_among ws i).min x off (in_own_cell r x inside)))

  pub relisted_taken : (n : ℕ) → IsFront had ws w n → (has : Place → Bool) → OtherCells has → HasTakenOff world p ws n (place_among ws w ∷ []) has
  relisted_taken n front has cells at v x window inside off hidden =
      ⊎_elim
      (λ (below : at < n).
      let first = first_same n at v front window below in
      cells i x first.0 stands inside ∙ sym (first.1 (cell_of r x)) ∙ hidden)
      (λ (later : n ≤ at).
      let clear = off later in
      let other = off_other (place_among ws w ∷ []) i x stands inside (λ q none. (or_parts (holds (place_among ws w) q) false none).0) clear in
      cells i x other stands inside
      ∙ before_hidden i (cell_of r x) other stands
      (λ y within. not_then (there i y) (or_parts (holds (place_among ws w) (there i y)) false (away (place_among ws w ∷ []) r (cell_part r (cell_of r x)) (place_among ws i).min y clear within)).0)
      hidden)
      (cases_lt at n)
    where
      i : ℕ
      i = v.image

      r : Rect
      r = (image_at world i).r

      stands : parent_of world i ≡ Some p
      stands = window_stands at v window

  -- what was not hidden and is not has no place once the tiles are taken
  none_then : (has after : Place → Bool) → ((place : Place) → after place ≡ (has place || in_hidden world p ws place)) → (i : ℕ) (x : Point) → parent_of world i ≡ Some p → holds (image_at world i).r x ≡ true → hides_cell (image_at world p).r ws i (image_at world i).r (cell_of (image_at world i).r x) ≡ false → has (own i x) ≡ false → after (own i x) ≡ false
  none_then has after taken i x stands inside shown none =
      taken (own i x)
      ∙ neither (has (own i x)) (in_hidden world p ws (own i x)) none (in_hidden_is world p i ws x (relist_listed world p ws is.live is.forest i stands) inside ∙ shown)

  module _ (has after : Place → Bool) (cells : OtherCells has) (taken : (place : Place) → after place ≡ (has place || in_hidden world p ws place)) where
    -- those of the first windows, and of others over which it did not stand
    first_given : (n at : ℕ) (v : Window) (x : Point) → IsFront had ws w n → IsWindowAt ws at v → at < n → holds (image_at world v.image).r x ≡ true → hides_cell (image_at world p).r ws v.image (image_at world v.image).r (cell_of (image_at world v.image).r x) ≡ false → after (own v.image x) ≡ false
    first_given n at v x front window below inside shown =
        let stands = window_stands at v window in
        let first = first_same n at v front window below in
        none_then has after taken v.image x stands inside shown
        (cells v.image x first.0 stands inside ∙ sym (first.1 (cell_of (image_at world v.image).r x)) ∙ shown)

    other_given : (i : ℕ) (x : Point) → i ≢ w → parent_of world i ≡ Some p → holds (image_at world i).r x ≡ true → ((y : Point) → holds (cell_part (image_at world i).r (cell_of (image_at world i).r x)) y ≡ true → holds (image_at world p).r (there i y) ≡ true → is_top had w (there i y) ≡ false) → hides_cell (image_at world p).r ws i (image_at world i).r (cell_of (image_at world i).r x) ≡ false → after (own i x) ≡ false
    other_given i x other stands inside none shown =
        let r = (image_at world i).r in
        none_then has after taken i x stands inside shown
        (cells i x other stands inside
        ∙ false_from_ne_true (hides_on world p i (cell_part r (cell_of r x))) (λ was. true≢false (sym (then_hidden i (cell_of r x) other stands none was) ∙ shown)))

    -- where the area has all points where it stood
    off_given : (area : Rect) → HasPlaceOf world p w area → (rest : List Rect) (i : ℕ) (x : Point) → i ≢ w → parent_of world i ≡ Some p → holds (image_at world i).r x ≡ true → meets (area ∷ rest) (standing_at world ws i x) ≡ false → hides_cell (image_at world p).r ws i (image_at world i).r (cell_of (image_at world i).r x) ≡ false → after (own i x) ≡ false
    off_given area covered rest i x other stands inside clear =
        let r = (image_at world i).r in
        other_given i x other stands inside
        (λ y within below.
        let q = there i y in
        let out : holds area q ≡ false = (or_parts (holds area q) (list_any (λ (a : Rect). holds a q) rest) (away (area ∷ rest) r (cell_part r (cell_of r x)) (place_among ws i).min y clear within)).0 in
        not_before q (false_from_ne_true (holds (place_among had w) q) (λ stood. true≢false (sym (covered q below stood) ∙ out))))

    pub relisted_given : (n : ℕ) → IsFront had ws w n → (area : Rect) → HasPlaceOf world p w area → HasGivenOff world p ws n (area ∷ place_among ws w ∷ []) after
    relisted_given n front area covered at v x window inside off shown =
        ⊎_elim
        (λ (below : at < n). first_given n at v x front window below inside shown)
        (λ (later : n ≤ at).
        let stands = window_stands at v window in
        let areas = area ∷ place_among ws w ∷ [] in
        let other = off_other areas v.image x stands inside (λ q none. (or_parts (holds (place_among ws w) q) false (or_parts (holds area q) (holds (place_among ws w) q || false) none).1).0) (off later) in
        off_given area covered (place_among ws w ∷ []) v.image x other stands inside (off later) shown)
        (cases_lt at n)

    -- the same where nothing of it shows then: all its cells are hidden
    pub hidden_given : (n : ℕ) → IsFront had ws w n → (area : Rect) → HasPlaceOf world p w area → ((z : Point) → holds (image_at world p).r z ≡ true → is_top ws w z ≡ false) → HasGivenOff world p ws n (area ∷ []) after
    hidden_given n front area covered gone at v x window inside off shown =
        ⊎_elim
        (λ (below : at < n). first_given n at v x front window below inside shown)
        (λ (later : n ≤ at). off_given area covered [] v.image x other stands inside (off later) shown)
        (cases_lt at n)
      where
        stands : parent_of world v.image ≡ Some p
        stands = window_stands at v window

        unshown : (b : Bool) → holds (image_at world p).r (there v.image x) ≡ b → v.image ≡ w → (holds (image_at world p).r (there v.image x) && is_top ws v.image (there v.image x)) ≡ false
        unshown false e same = ap (λ b. b && is_top ws v.image (there v.image x)) e
        unshown true e same = ap (λ b. b && is_top ws v.image (there v.image x)) e ∙ ap (λ m. is_top ws m (there v.image x)) same ∙ gone (there v.image x) e

        other : v.image ≢ w
        other same =
            true≢false
            (sym (relist_hidden world p ws is.live is.forest v.image x stands inside (unshown (holds (image_at world p).r (there v.image x)) refl same))
            ∙ in_hidden_is world p v.image ws x (relist_listed world p ws is.live is.forest v.image stands) inside ∙ shown)

    -- and where it stood at no point of the image
    pub unhidden_given : (n : ℕ) → IsFront had ws w n → ((z : Point) → holds (place_among had w) z ≡ true → holds (image_at world p).r z ≡ false) → HasGivenOff world p ws n (place_among ws w ∷ []) after
    unhidden_given n front out at v x window inside off shown =
        ⊎_elim
        (λ (below : at < n). first_given n at v x front window below inside shown)
        (λ (later : n ≤ at).
        let stands = window_stands at v window in
        let other = off_other (place_among ws w ∷ []) v.image x stands inside (λ q none. (or_parts (holds (place_among ws w) q) false none).0) (off later) in
        other_given v.image x other stands inside
        (λ y within below.
        not_before (there v.image y) (false_from_ne_true (holds (place_among had w) (there v.image y)) (λ stood. true≢false (sym below ∙ out (there v.image y) stood))))
        shown)
        (cases_lt at n)

    -- and where it comes and has no place yet
    pub added_given : place_among had w ≡ no_rect → ((x : Point) → has (own w x) ≡ false) → (at : ℕ) (v : Window) (x : Point) → IsWindowAt ws at v → holds (image_at world v.image).r x ≡ true → hides_cell (image_at world p).r ws v.image (image_at world v.image).r (cell_of (image_at world v.image).r x) ≡ false → after (own v.image x) ≡ false
    added_given came bare at v x window inside shown =
        ⊎_elim
        (λ (same : v.image ≡ w). none_then has after taken v.image x stands inside shown (ap (λ m. has (own m x)) same ∙ bare x))
        (λ (other : v.image ≢ w).
        other_given v.image x other stands inside
        (λ y within below. not_before (there v.image y) (ap (λ (s : Rect). holds s (there v.image y)) came ∙ none_in (there v.image y))) shown)
        (cases_eq v.image w)
      where
        stands : parent_of world v.image ≡ Some p
        stands = window_stands at v window

-- ---- other orders

module _ (world : World) (p : ℕ) (ws : List Window) (order : IsReordering world p ws) (areas : List Rect) (outside : (z : Point) → holds (image_at world p).r z ≡ true → covers areas z ≡ false → IsSameTop world p ws z) (ok : IsForest world) (has : Place → Bool) (cells : HasCells world has) where
  ordered_stands : (at : ℕ) (v : Window) → IsWindowAt ws at v → parent_of world v.image ≡ Some p
  ordered_stands at v window =
      let found = All-listed (IsWindowOf world p) ws v.image order.stand (at_listed ws at v window) in
      subst (λ n. parent_of world n ≡ Some p) found.1 found.2.stands

  ordered : (i : ℕ) (x : Point) → parent_of world i ≡ Some p → holds (image_at world i).r x ≡ true → meets areas (standing_at world ws i x) ≡ false → has (own i x) ≡ hides_cell (image_at world p).r ws i (image_at world i).r (cell_of (image_at world i).r x)
  ordered i x stands inside off =
      cells i p x stands inside
      ∙ ap (λ o. option_map_or (λ (m : ℕ). hides_on world m i (cell_part r k)) o false) stands
      ∙ sym (same_cells world p ws i order.live stands (parent-apart world ok i p stands) (order.places i) (λ y h. place-inside world ok (places-forest world ok) p i y stands h) k tops)
    where
      r : Rect
      r = (image_at world i).r

      k : ℕ
      k = cell_of r x

      tops : (y : Point) → holds (cell_part r k) y ≡ true → holds (image_at world p).r (outward world p i y) ≡ true → is_top ws i (outward world p i y) ≡ is_top (image_at world p).windows i (outward world p i y)
      tops y within below =
          let q = outward world p i y in
          let out : carried y r.min (place_among ws i).min ≡ q = ap (λ (s : Rect). carried y r.min s.min) (order.places i) in
          (outside q below (ap (λ z. list_any (λ (a : Rect). holds a z) areas) (sym out) ∙ away areas r (cell_part r k) (place_among ws i).min y off within)).tops i

  pub ordered_taken : HasTakenOff world p ws 0 areas has
  ordered_taken at v x window inside off hidden = ordered v.image x (ordered_stands at v window) inside (off (omega arith)) ∙ hidden

  pub ordered_given : IsForest (with_list world p ws) → (after : Place → Bool) → ((place : Place) → after place ≡ (has place || in_hidden world p ws place)) → HasGivenOff world p ws 0 areas after
  ordered_given now after taken at v x window inside off shown =
      let stands = ordered_stands at v window in
      taken (own v.image x)
      ∙ neither (has (own v.image x)) (in_hidden world p ws (own v.image x))
      (ordered v.image x stands inside (off (omega arith)) ∙ shown)
      (in_hidden_is world p v.image ws x (relist_listed world p ws order.live now v.image stands) inside ∙ shown)

-- ---- a window goes

pub left_given : (world : World) (p w : ℕ) → IsGoing world p w → (area : Rect) → HasPlaceOf world p w area → (n : ℕ) → IsFront (image_at world p).windows (others world p w) w n → (has : Place → Bool) → HasCells world has → HasGivenOff (with_list world p (others world p w)) p (others world p w) n (area ∷ []) has
left_given world p w going area covered n front has cells at v x window inside off shown =
    cells i p x stands within
    ∙ ap (λ o. option_map_or (λ (m : ℕ). hides_on world m i (cell_part r k)) o false) stands
    ∙ sym (⊎_elim alike_first (λ (later : n ≤ at). same_cells world p ws i live stands apart place placed k (tops (clear later))) (cases_lt at n))
    ∙ (λ j. hides_cell (sym at_p j).r ws i (sym at_i j).r (cell_of (sym at_i j).r x))
    ∙ shown
  where
    ws : List Window
    ws = others world p w

    change : IsChange world p ws w
    change = leaving_change world p w going

    i : ℕ
    i = v.image

    r : Rect
    r = (image_at world i).r

    k : ℕ
    k = cell_of r x

    live : IsLive world p
    live = live_below world p w going

    stands : parent_of world i ≡ Some p
    stands =
        let found = All-listed (IsWindowOf world p) ws i change.stand (at_listed ws at v window) in
        subst (λ n. parent_of world n ≡ Some p) found.1 found.2.stands

    other : i ≢ w
    other =
        let found = All-listed (λ u. u.image ≢ w) ws i (without-apart w (image_at world p).windows) (at_listed ws at v window) in
        subst (λ n. n ≢ w) found.1 found.2

    apart : i ≢ p
    apart = parent-apart world going.before i p stands

    at_p : image_at (with_list world p ws) p ≡ record (image_at world p) { windows = ws }
    at_p = list_at world p ws

    at_i : image_at (with_list world p ws) i ≡ image_at world i
    at_i = list_other world p i ws apart

    within : holds r x ≡ true
    within = ap (λ (image : Image). holds image.r x) (sym at_i) ∙ inside

    place : place_among ws i ≡ place_among (image_at world p).windows i
    place = place-without w i (image_at world p).windows other

    placed : (y : Point) → holds r y ≡ true → holds (place_among (image_at world p).windows i) (outward world p i y) ≡ true
    placed y h = place-inside world going.before (places-forest world going.before) p i y stands h

    -- the first windows are hidden alike
    alike_first : at < n → hides_cell (image_at world p).r ws i r k ≡ hides_on world p i (cell_part r k)
    alike_first below = λ j. not (is_inside (out (place j)) (image_at world p).r) || list_any (λ (u : Window). not (is_empty (meet u.place (out (place j))))) (found.1 j)
      where
        found : (i ≢ w) × (above i ws ≡ above i (image_at world p).windows)
        found = front_above (image_at world p).windows ws w n at v front window below

        out : Rect → Rect
        out to = record { min = carried (cell_part r k).min r.min to.min; max = carried (cell_part r k).max r.min to.min }

    clear : n ≤ at → meets (area ∷ []) (standing_at world ws i x) ≡ false
    clear later = sym (ap (λ (image : Image). meets (area ∷ []) (standing_cell ws i image.r (cell_of image.r x))) at_i) ∙ off later

    tops : meets (area ∷ []) (standing_at world ws i x) ≡ false → (y : Point) → holds (cell_part r k) y ≡ true → holds (image_at world p).r (outward world p i y) ≡ true → is_top ws i (outward world p i y) ≡ is_top (image_at world p).windows i (outward world p i y)
    tops off_it y here below =
        let q = outward world p i y in
        let out : carried y r.min (place_among ws i).min ≡ q = ap (λ (s : Rect). carried y r.min s.min) place in
        let gone : holds area q ≡ false = ap (holds area) (sym out) ∙ (or_parts (holds area (carried y r.min (place_among ws i).min)) false (away (area ∷ []) r (cell_part r k) (place_among ws i).min y off_it here)).0 in
        (leaving_outside world p w going area covered q below gone).tops i
