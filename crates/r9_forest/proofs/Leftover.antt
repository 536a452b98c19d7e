-- What an image hides with a later list, in which a window moved far away, was hidden before, or is by the list before.
use Rattle.std.proofs.Common.{◌≡◌, ◌≢◌, ◌∙◌, ℕ, ◌<◌, Bool, true, false, List, [], ◌∷◌, Some, cond, inl, inr, find, refl, sym, ap, subst, eq-eqb, ⊎_elim}
use Rattle.std.specs.Prelude.{◌==◌, ◌&&◌, ◌||◌, ◌⊎◌, is_some, not, if◌then◌else◌}
use Rattle.std.specs.Option.{option_map_or}
use Rattle.std.specs.List.{list_any}
use Rattle.std.proofs.lemmas.Bool.{and_from, cases_eq, false_from_ne_true, false≢true, ne_eqb}
use Rattle.std.proofs.lemmas.Bool.Decides.{Decides-eqb}
use Rattle.std.proofs.lemmas.List.Folds.{list_any_at}
use Rattle.std.proofs.lemmas.List.Quantifiers.{position-Some}
use Rattle.r9_geom.specs.declared.Point.{Point}
use Rattle.r9_geom.specs.declared.Rect.{Rect}
use Rattle.r9_geom.specs.Geometry.{holds, is_empty, is_inside, meet, IsOrdered}
use Rattle.r9_geom.proofs.GeometryLemmas.{empty_holds, empty_since, holds-meet, inside_tells}
use Rattle.model_forest.specs.declared.Window.{Window}
use Rattle.model_forest.specs.Stack.{moved, moved_window}
use Rattle.model_forest.specs.World.{World, image_at, no_rect, parent_of, IsForest, IsLive, SameSize}
use Rattle.model_forest.proofs.Changes.{live-standing}
use Rattle.model_forest.proofs.Listed.{stands_on}
use Rattle.model_kept.specs.Cells.{above, cell_count, cell_part, hides, hides_on}
use Rattle.model_kept.specs.Keeping.{is_top, place_among}
use Rattle.r9_cells.specs.Fitting.{hides_cell, hides_listed, meets, standing_cell, standing_part, IsWindowAt}
use Rattle.r9_cells.proofs.Listed.{no_window}
use Rattle.r9_cells.proofs.Skipped.{place_is}
use Rattle.r9_cells.proofs.Spans.{lies_meets}
use Rattle.r9_cells.proofs.Walks.{cell_in}
use Rattle.r9_cells.proofs.Windowed.{cell_met}
use Rattle.r9_relist.proofs.relist.Without.{place-without}
use Rattle.r9_relist.specs.arrive.Arriving.{IsLeft, IsLeftOf}
use Rattle.model_exchanged.proofs.exchanged.InPlace.{without-moved}

-- ---- two rectangles

meet_turned : (a b : Rect) → is_empty (meet a b) ≡ true → is_empty (meet b a) ≡ true
meet_turned a b none =
    empty_since (meet b a)
    (λ p.
    holds-meet b a p ∙ turned (holds b p) (holds a p) (sym (holds-meet a b p) ∙ empty_holds (meet a b) p none))
  where
    turned : (x y : Bool) → (y && x) ≡ false → (x && y) ≡ false
    turned true true e = e
    turned true false e = refl
    turned false y e = refl

some_turned : (a b : Rect) → not (is_empty (meet a b)) ≡ true → not (is_empty (meet b a)) ≡ true
some_turned a b some =
    ap not (false_from_ne_true (is_empty (meet b a)) (λ none. false≢true (sym (ap not (meet_turned b a none)) ∙ some)))

inside_self : (r : Rect) → is_inside r r ≡ true
inside_self r = (inside_tells r r (is_inside r r) refl).1 (λ p h. h)

-- ---- a window that moved among others

module _ (old : ℕ) (far : Rect) where
  abbrev there : Window
  there = record { image = old; place = far }

  moved_image : (u : Window) → (moved_window old far u).image ≡ u.image
  moved_image u = by_image (u.image == old) refl
    where
      by_image : (b : Bool) → (u.image == old) ≡ b → (if b then there else u).image ≡ u.image
      by_image true e = sym ((Decides-eqb u.image old).0 e)
      by_image false e = refl

  any_moved : (n : ℕ) (ws : List Window) → list_any (λ (v : Window). v.image == n) (moved old far ws) ≡ list_any (λ (v : Window). v.image == n) ws
  any_moved n [] = refl
  any_moved n (u ∷ us) = λ j. (moved_image u j == n) || any_moved n us j

  place_moved : (n : ℕ) (ws : List Window) → n ≢ old → place_among (moved old far ws) n ≡ place_among ws n
  place_moved n ws other =
      sym (place-without old n (moved old far ws) other) ∙ ap (λ (vs : List Window). place_among vs n) (without-moved old far ws) ∙ place-without old n ws other

  pub place_there : (ws : List Window) → list_any (λ (v : Window). v.image == old) ws ≡ true → place_among (moved old far ws) old ≡ far
  place_there [] some = absurd (false≢true some)
  place_there (u ∷ us) some = by_image (u.image == old) refl (place_there us) some
    where
      at : Bool → Window → List Window → Rect
      at b v vs = option_map_or (λ (w : Window). w.place) (cond b (Some v) (find (λ (w : Window). w.image == old) vs)) no_rect

      by_image : (b : Bool) → (u.image == old) ≡ b → (list_any (λ (v : Window). v.image == old) us ≡ true → place_among (moved old far us) old ≡ far) → (b || list_any (λ (v : Window). v.image == old) us) ≡ true → at ((if b then there else u).image == old) (if b then there else u) (moved old far us) ≡ far
      by_image true e rest some = ap (λ b. at b there (moved old far us)) (eq-eqb old old refl)
      by_image false e rest some = ap (λ b. at b u (moved old far us)) e ∙ rest some

  -- it is topmost only where it stands
  moved_top : (ws : List Window) (z : Point) → is_top (moved old far ws) old z ≡ true → holds far z ≡ true
  moved_top [] z top = absurd (false≢true top)
  moved_top (u ∷ us) z top = by_image (u.image == old) refl (moved_top us z) top
    where
      rest : Window → Bool → Bool
      rest v h = option_map_or (λ (w : Window). w.image == old) (cond h (Some v) (find (λ (w : Window). holds w.place z) (moved old far us))) false

      by_place : (h : Bool) → holds far z ≡ h → (is_top (moved old far us) old z ≡ true → holds far z ≡ true) → rest there h ≡ true → holds far z ≡ true
      by_place true e further top = e
      by_place false e further top = further top

      by_other : (h : Bool) → (u.image == old) ≡ false → (is_top (moved old far us) old z ≡ true → holds far z ≡ true) → rest u h ≡ true → holds far z ≡ true
      by_other true e further top = absurd (false≢true (sym e ∙ top))
      by_other false e further top = further top

      by_image : (b : Bool) → (u.image == old) ≡ b → (is_top (moved old far us) old z ≡ true → holds far z ≡ true) → rest (if b then there else u) (holds (if b then there else u).place z) ≡ true → holds far z ≡ true
      by_image true e further top = by_place (holds far z) refl further top
      by_image false e further top = by_other (holds u.place z) e further top

  -- what stands above another stood there before, or is it
  abbrev IsOver : (Window → Bool) → ℕ → List Window → Type 0
  IsOver f n ws = ((f there ≡ true) × (list_any (λ (v : Window). v.image == old) ws ≡ true)) ⊎ (list_any f (above n ws) ≡ true)

  above_moved : (f : Window → Bool) (n : ℕ) (ws : List Window) → n ≢ old → list_any f (above n (moved old far ws)) ≡ true → ((f there ≡ true) × (list_any (λ (v : Window). v.image == old) ws ≡ true)) ⊎ (list_any f (above n ws) ≡ true)
  above_moved f n [] other some = absurd (false≢true some)
  above_moved f n (u ∷ us) other some = by_image (u.image == old) refl (above_moved f n us other) some
    where
      step : Bool → Window → List Window → Bool
      step c v vs = list_any f (if c then [] else v ∷ vs)

      or_right : (x y : Bool) → y ≡ true → (x || y) ≡ true
      or_right true y e = refl
      or_right false y e = e

      by_there : (t : Bool) → f there ≡ t → (u.image == n) ≡ false → (list_any f (above n (moved old far us)) ≡ true → IsOver f n us) → (t || list_any f (above n (moved old far us))) ≡ true → ((f there ≡ true) × ((true || list_any (λ (v : Window). v.image == old) us) ≡ true)) ⊎ (step (u.image == n) u (above n us) ≡ true)
      by_there true h apart rest some = inl (h, refl)
      by_there false h apart rest some =
          ⊎_elim
          (λ (is : (f there ≡ true) × (list_any (λ (v : Window). v.image == old) us ≡ true)). inl (is.0, refl))
          (λ (was : list_any f (above n us) ≡ true). inr (ap (λ c. step c u (above n us)) apart ∙ or_right (f u) (list_any f (above n us)) was))
          (rest some)

      by_here : (t : Bool) → (list_any f (above n (moved old far us)) ≡ true → IsOver f n us) → (t || list_any f (above n (moved old far us))) ≡ true → ((f there ≡ true) × (list_any (λ (v : Window). v.image == old) us ≡ true)) ⊎ ((t || list_any f (above n us)) ≡ true)
      by_here true rest some = inr refl
      by_here false rest some = rest some

      by_test : (c : Bool) → (list_any f (above n (moved old far us)) ≡ true → IsOver f n us) → step c u (above n (moved old far us)) ≡ true → ((f there ≡ true) × (list_any (λ (v : Window). v.image == old) us ≡ true)) ⊎ (step c u (above n us) ≡ true)
      by_test true rest some = absurd (false≢true some)
      by_test false rest some = by_here (f u) rest some

      by_image : (b : Bool) → (u.image == old) ≡ b → (list_any f (above n (moved old far us)) ≡ true → IsOver f n us) → step ((if b then there else u).image == n) (if b then there else u) (above n (moved old far us)) ≡ true → ((f there ≡ true) × ((b || list_any (λ (v : Window). v.image == old) us) ≡ true)) ⊎ (step (u.image == n) u (above n us) ≡ true)
      by_image true e rest some =
          let apart : (old == n) ≡ false = ne_eqb old n (λ same. other (sym same)) in
          let is : u.image ≡ old = (Decides-eqb u.image old).0 e in
          by_there (f there) refl (ap (λ m. m == n) is ∙ apart) rest (sym (ap (λ c. step c there (above n (moved old far us))) apart) ∙ some)
      by_image false e rest some = by_test (u.image == n) rest some

-- where that has no point of the image below, nothing of it shows
pub hidden_top : (i : ℕ) (place below : Rect) (ws list : List Window) → list ≡ moved i place ws → is_empty (meet place below) ≡ true → (z : Point) → holds below z ≡ true → is_top list i z ≡ false
hidden_top i place below ws list is off z inside =
    false_from_ne_true (is_top list i z)
    (λ top.
    let over : holds place z ≡ true = moved_top i place ws z (sym (ap (λ (vs : List Window). is_top vs i z) is) ∙ top) in
    false≢true (sym (empty_holds (meet place below) z off) ∙ holds-meet place below z ∙ and_from (holds place z) (holds below z) over inside))

-- ---- what the later list hides

module _ (world : World) (p q old : ℕ) (list later : List Window) (far : Rect) (ok : IsForest world) (live : IsLive world q) (size : SameSize far (image_at world old).r) (ordered : IsOrdered (image_at world old).r) (is : later ≡ moved old far (if q == p then list else (image_at world q).windows)) where
  abbrev base : List Window
  base = if q == p then list else (image_at world q).windows

  -- the windows that it lists stood there
  listed_base : (at : ℕ) (w : Window) → IsWindowAt later at w → list_any (λ (v : Window). v.image == w.image) base ≡ true
  listed_base at w here =
      let found = position-Some (λ (v : Window). v.image == w.image) later at no_window here.first in
      sym (ap (list_any (λ (v : Window). v.image == w.image)) is ∙ any_moved old far w.image base)
      ∙ list_any_at (λ (v : Window). v.image == w.image) later at no_window found.0 found.1

  -- what they hid there was hidden
  base_shown : (n k : ℕ) → list_any (λ (v : Window). v.image == n) base ≡ true → hides_cell (image_at world q).r base n (image_at world n).r k ≡ true → hides world n (cell_part (image_at world n).r k) ≡ false → hides_listed world p list n k ≡ false → ⊥
  base_shown n k here hidden shown unlisted = by_image (q == p) refl here hidden
    where
      part : Rect
      part = cell_part (image_at world n).r k

      by_image : (b : Bool) → (q == p) ≡ b → list_any (λ (v : Window). v.image == n) (if b then list else (image_at world q).windows) ≡ true → hides_cell (image_at world q).r (if b then list else (image_at world q).windows) n (image_at world n).r k ≡ true → ⊥
      by_image true e here hidden =
          let same : q ≡ p = (Decides-eqb q p).0 e in
          let hidden_there : hides_cell (image_at world p).r list n (image_at world n).r k ≡ true = ap (λ m. hides_cell (image_at world m).r list n (image_at world n).r k) (sym same) ∙ hidden in
          false≢true (sym unlisted ∙ and_from (list_any (λ (v : Window). v.image == n) list) (hides_cell (image_at world p).r list n (image_at world n).r k) here hidden_there)
      by_image false e here hidden =
          let stands : parent_of world n ≡ Some q = stands_on world ok q n live here in
          false≢true (sym shown ∙ ap (λ o. option_map_or (λ (m : ℕ). hides_on world m n part) o false) stands ∙ hidden)

  module _ (at : ℕ) (w : Window) (k : ℕ) (here : IsWindowAt later at w) (below : k < cell_count (image_at world w.image).r) where
    abbrev r : Rect
    r = (image_at world w.image).r

    -- one of the window itself lies where that stands
    own_meets : w.image ≡ old → meets (place_among later old ∷ []) (standing_cell later w.image r k) ≡ true
    own_meets same =
        let place : place_among later old ≡ w.place = ap (place_among later) (sym same) ∙ here.place in
        let stood : list_any (λ (v : Window). v.image == old) base ≡ true = ap (λ n. list_any (λ (v : Window). v.image == n) base) (sym same) ∙ listed_base at w here in
        let there_is : w.place ≡ far = sym place ∙ ap (λ (vs : List Window). place_among vs old) is ∙ place_there old far base stood in
        let sized : SameSize w.place r = subst (λ (s : Rect). SameSize s r) (sym there_is) (subst (λ n. SameSize far (image_at world n).r) (sym same) size) in
        let cell = cell_in r w.place.min k (subst (λ n. IsOrdered (image_at world n).r) (sym same) ordered) below in
        let out : Rect = standing_part r w.place.min (cell_part r k) in
        let inside : is_inside out w.place ≡ true = ap (is_inside out) (sym (place_is w.place r sized)) ∙ cell.inside in
        let lies : list_any (λ (a : Rect). is_inside w.place a) (place_among later old ∷ []) ≡ true = λ j. (ap (is_inside w.place) place ∙ inside_self w.place) j || false in
        sym (cell_met (place_among later old ∷ []) later at w r k here)
        ∙ lies_meets (place_among later old ∷ []) w.place out lies inside cell.some

  -- and of another, which the list before does not hide, it is under it
  module _ (n k : ℕ) (r : Rect) (other : n ≢ old) (never : hides_cell (image_at world q).r base n r k ≡ true → ⊥) where
    other_meets : hides_cell (image_at world q).r later n r k ≡ true → meets (place_among later old ∷ []) (standing_cell later n r k) ≡ true
    other_meets hidden = by_within (not (is_inside out (image_at world q).r)) refl hidden_so
      where
        part : Rect
        part = cell_part r k

        places : place_among later n ≡ place_among base n
        places = ap (λ (vs : List Window). place_among vs n) is ∙ place_moved old far n base other

        out : Rect
        out = standing_part r (place_among base n).min part

        over : Window → Bool
        over v = not (is_empty (meet v.place out))

        hidden_so : (not (is_inside out (image_at world q).r) || list_any over (above n (moved old far base))) ≡ true
        hidden_so =
            (λ j. not (is_inside (standing_part r (sym places j).min part) (image_at world q).r) || list_any (λ (v : Window). not (is_empty (meet v.place (standing_part r (sym places j).min part)))) (above n (sym is j)))
            ∙ hidden

        met : (over (record { image = old; place = far }) ≡ true) × (list_any (λ (v : Window). v.image == old) base ≡ true) → meets (place_among later old ∷ []) (standing_cell later n r k) ≡ true
        met so =
            let far_is : place_among later old ≡ far = ap (λ (vs : List Window). place_among vs old) is ∙ place_there old far base so.1 in
            (λ j. not (is_empty (meet (standing_part r (places j).min part) (far_is j))) || false)
            ∙ ap (λ b. b || false) (some_turned far out so.0)

        by_within : (b : Bool) → not (is_inside out (image_at world q).r) ≡ b → (b || list_any over (above n (moved old far base))) ≡ true → meets (place_among later old ∷ []) (standing_cell later n r k) ≡ true
        by_within true e so = absurd (never (ap (λ b. b || list_any over (above n base)) e))
        by_within false e so =
            ⊎_elim met
            (λ (was : list_any over (above n base) ≡ true). absurd (never (ap (λ b. b || list_any over (above n base)) e ∙ was)))
            (above_moved old far over n base other so)

  pub later_left : IsLeft world p list q later (place_among later old ∷ [])
  later_left at w k here below hidden shown unlisted =
      ⊎_elim (own_meets at w k here below)
      (λ (other : w.image ≢ old). other_meets w.image k (image_at world w.image).r other (λ so. base_shown w.image k (listed_base at w here) so shown unlisted) hidden)
      (cases_eq w.image old)

  -- and so of one that stood nowhere before
  pub later_left_own : (i : ℕ) (r : Rect) → is_some (world i) ≡ false → i ≢ old → IsLeftOf world p list q later (place_among later old ∷ []) i r
  later_left_own i r free apart at w k here same below hidden shown =
      other_meets i k r apart (λ so. by_image (q == p) refl (ap (λ n. list_any (λ (v : Window). v.image == n) base) (sym same) ∙ listed_base at w here) so) hidden
    where
      by_image : (b : Bool) → (q == p) ≡ b → list_any (λ (v : Window). v.image == i) (if b then list else (image_at world q).windows) ≡ true → hides_cell (image_at world q).r (if b then list else (image_at world q).windows) i r k ≡ true → ⊥
      by_image true e held so =
          let is_same : q ≡ p = (Decides-eqb q p).0 e in
          false≢true (sym shown ∙ ap (λ m. hides_cell (image_at world m).r list i r k) (sym is_same) ∙ so)
      by_image false e held so = false≢true (sym free ∙ live-standing world i q (stands_on world ok q i live held))
