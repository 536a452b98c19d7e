-- A part of a window has a hidden point exactly where it is not all within its parent or a window above stands over it.
use Rattle.std.proofs.Common.{◌≡◌, ◌∙◌, ℕ, pos, ◌-ℤ◌, Bool, true, false, List, [], ◌∷◌, Some, cond, refl, sym, ap, subst, arith}
use Rattle.std.specs.Prelude.{◌==◌, ◌&&◌, ◌||◌, All, not, find, IsTrue, if◌then◌else◌}
use Rattle.std.specs.Option.{option_map_or}
use Rattle.std.specs.List.{list_any}
use Rattle.std.proofs.lemmas.Int.{ints}
use Rattle.std.proofs.lemmas.Bool.{and_parts, false≢true, true≢false, or_left, or_right}
use Rattle.r9_geom.specs.declared.Point.{Point}
use Rattle.r9_geom.specs.declared.Rect.{Rect}
use Rattle.r9_geom.specs.Geometry.{carried, holds, is_empty, is_inside, meet}
use Rattle.r9_geom.proofs.GeometryLemmas.{bounds_of, corner, empty_holds, holds-meet, holds_from, inside_tells, int_le_false, same_tests}
use Rattle.model_forest.specs.declared.Window.{Window}
use Rattle.model_forest.specs.World.{World, image_at, parent_of, IsForest, IsLive, SameSize}
use Rattle.model_forest.specs.View.{top_window}
use Rattle.model_kept.specs.Keeping.{outward, is_top, is_shown, is_hidden, place_among, HasOnePlaces}
use Rattle.model_forest.proofs.Changes.{live-standing}
use Rattle.model_forest.proofs.Listed.{All-listed}
use Rattle.model_forest.proofs.Views.{holds-carried}
use Rattle.model_kept.proofs.Storing.{carried-back}
use Rattle.model_kept.specs.Cells.{above, hides_on, out_rect, HasHidden}

or_cases : {C : Type 0} (a b : Bool) → (a || b) ≡ true → (a ≡ true → C) → (b ≡ true → C) → C
or_cases true b e f g = f refl
or_cases false b e f g = g e

-- ---- windows above

-- a window that one above covers at a point is not topmost there
pub covered-not_top : (ws : List Window) (i : ℕ) (q : Point) → list_any (λ w. holds w.place q) (above i ws) ≡ true → is_top ws i q ≡ false
covered-not_top [] i q e = cc
covered-not_top (w ∷ ws) i q e = by_image (w.image == i) refl e (λ rest. covered-not_top ws i q rest)
  where
    by_image : (b : Bool) → (w.image == i) ≡ b → list_any (λ v. holds v.place q) (if b then [] else w ∷ above i ws) ≡ true → (list_any (λ v. holds v.place q) (above i ws) ≡ true → is_top ws i q ≡ false) → option_map_or (λ v. v.image == i) (cond (holds w.place q) (Some w) (top_window ws q)) false ≡ false
    by_image true image e rest = cc
    by_image false image e rest = by_place (holds w.place q) refl
      where
        by_place : (b : Bool) → holds w.place q ≡ b → option_map_or (λ (v : Window). v.image == i) (cond b (Some w) (top_window ws q)) false ≡ false
        by_place true h = image
        by_place false h = rest (sym (ap (λ b. b || list_any (λ (v : Window). holds v.place q) (above i ws)) h) ∙ e)

-- and one that covers the point and is not topmost has one above that covers it
pub not_top-covered : (ws : List Window) (i : ℕ) (q : Point) → list_any (λ w. w.image == i) ws ≡ true → holds (place_among ws i) q ≡ true → is_top ws i q ≡ false → list_any (λ w. holds w.place q) (above i ws) ≡ true
not_top-covered [] i q listed h e = cc
not_top-covered (w ∷ ws) i q listed h e = by_image (w.image == i) refl listed h (λ listed h e. not_top-covered ws i q listed h e)
  where
    by_image : (b : Bool) → (w.image == i) ≡ b → (b || list_any (λ v. v.image == i) ws) ≡ true → holds (option_map_or (λ v. v.place) (cond b (Some w) (find (λ v. v.image == i) ws)) (place_among [] i)) q ≡ true → (list_any (λ v. v.image == i) ws ≡ true → holds (place_among ws i) q ≡ true → is_top ws i q ≡ false → list_any (λ v. holds v.place q) (above i ws) ≡ true) → list_any (λ v. holds v.place q) (if b then [] else w ∷ above i ws) ≡ true
    by_image true image listed h rest =
        let top : is_top (w ∷ ws) i q ≡ true = ap (λ b. option_map_or (λ (v : Window). v.image == i) (cond b (Some w) (top_window ws q)) false) h ∙ image in
        absurd (true≢false (sym top ∙ e))
    by_image false image listed h rest = by_place (holds w.place q) refl
      where
        by_place : (b : Bool) → holds w.place q ≡ b → (b || list_any (λ (v : Window). holds v.place q) (above i ws)) ≡ true
        by_place true here = refl
        by_place false here = rest listed h (sym (ap (λ b. option_map_or (λ (v : Window). v.image == i) (cond b (Some w) (top_window ws q)) false) here) ∙ e)

-- ---- rectangles that meet

not_true : (b : Bool) → not b ≡ true → b ≡ false
not_true false e = refl
not_true true e = cc

not_false : (b : Bool) → b ≡ false → not b ≡ true
not_false false e = refl
not_false true e = cc

is_some_point : (r : Rect) → is_empty r ≡ false → holds r r.min ≡ true
is_some_point r some = corner r (int_le_false _ _ (left_false _ _ some)) (int_le_false _ _ (right_false _ _ some))
  where
    left_false : (a b : Bool) → (a || b) ≡ false → a ≡ false
    left_false false b e = refl
    left_false true b e = cc

    right_false : (a b : Bool) → (a || b) ≡ false → b ≡ false
    right_false false b e = e
    right_false true b e = cc

pub some_meets : (out : Rect) (ws : List Window) → list_any (λ w. not (is_empty (meet w.place out))) ws ≡ true → (q : Point) × (holds out q ≡ true) × (list_any (λ w. holds w.place q) ws ≡ true)
some_meets out [] e = cc
some_meets out (w ∷ ws) e =
    or_cases (not (is_empty (meet w.place out))) (list_any (λ v. not (is_empty (meet v.place out))) ws) e
    (λ here.
    let q : Point = (meet w.place out).min in
    let both = and_parts (holds w.place q) (holds out q) (sym (holds-meet w.place out q) ∙ is_some_point (meet w.place out) (not_true (is_empty (meet w.place out)) here)) in
    (q, both.1, or_left (holds w.place q) (list_any (λ (v : Window). holds v.place q) ws) both.0))
    (λ rest.
    let found = some_meets out ws rest in
    (found.0, found.1, or_right (holds w.place found.0) (list_any (λ (v : Window). holds v.place found.0) ws) found.2))

pub meets_some : (out : Rect) (ws : List Window) (q : Point) → holds out q ≡ true → list_any (λ w. holds w.place q) ws ≡ true → list_any (λ w. not (is_empty (meet w.place out))) ws ≡ true
meets_some out [] q h e = cc
meets_some out (w ∷ ws) q h e =
    or_cases (holds w.place q) (list_any (λ v. holds v.place q) ws) e
    (λ here.
    or_left (not (is_empty (meet w.place out))) (list_any (λ (v : Window). not (is_empty (meet v.place out))) ws)
    (not_false (is_empty (meet w.place out)) (by_empty (is_empty (meet w.place out)) refl here)))
    (λ rest. or_right (not (is_empty (meet w.place out))) (list_any (λ (v : Window). not (is_empty (meet v.place out))) ws) (meets_some out ws q h rest))
  where
    by_empty : (b : Bool) → is_empty (meet w.place out) ≡ b → holds w.place q ≡ true → b ≡ false
    by_empty false none here = refl
    by_empty true none here =
        let both : holds (meet w.place out) q ≡ true = holds-meet w.place out q ∙ ap (λ b. b && holds out q) here ∙ h in
        absurd (true≢false (sym both ∙ empty_holds (meet w.place out) q none))

-- what is not all inside has a point outside
pub outside_point : (a b : Rect) → is_inside a b ≡ false → (q : Point) × (holds a q ≡ true) × (holds b q ≡ false)
outside_point a b out = by_first (holds b a.min) refl
  where
    some : is_empty a ≡ false
    some = left (is_empty a) _ out
      where
        left : (x y : Bool) → (x || y) ≡ false → x ≡ false
        left false y e = refl
        left true y e = cc

    last : Point
    last = record { x = a.max.x -ℤ pos 1; y = a.max.y -ℤ pos 1 }

    first_in : holds a a.min ≡ true
    first_in = is_some_point a some

    last_in : holds a last ≡ true
    last_in =
        let f = bounds_of a a.min first_in in
        holds_from a last (record {
          left = omega (arith, ints, f.right);
          right = omega (arith, ints);
          top = omega (arith, ints, f.bottom);
          bottom = omega (arith, ints);
        })

    by_first : (x : Bool) → holds b a.min ≡ x → (q : Point) × (holds a q ≡ true) × (holds b q ≡ false)
    by_first false e = (a.min, first_in, e)
    by_first true e = by_last (holds b last) refl
      where
        by_last : (x : Bool) → holds b last ≡ x → (q : Point) × (holds a q ≡ true) × (holds b q ≡ false)
        by_last false f = (last, last_in, f)
        by_last true f =
            let low = bounds_of b a.min e in
            let high = bounds_of b last f in
            let all : IsTrue (is_inside a b) = (inside_tells a b (is_inside a b) refl).1 (λ q h.
            let at = bounds_of a q h in
            holds_from b q (record {
              left = omega (arith, ints, low.left, at.left);
              right = omega (arith, ints, high.right, at.right);
              top = omega (arith, ints, low.top, at.top);
              bottom = omega (arith, ints, high.bottom, at.bottom);
            })) in
            absurd (true≢false (sym all ∙ out))

-- ---- a part of a window and where it stands

pub holds-carried_both : (r : Rect) (from to p : Point) → holds (record { min = carried r.min from to; max = carried r.max from to }) (carried p from to) ≡ holds r p
holds-carried_both r from to p =
    same_tests _ (holds r p)
    (λ h.
    let b = bounds_of (record { min = carried r.min from to; max = carried r.max from to }) (carried p from to) h in
    holds_from r p (record { left = omega (arith, ints, b.left); right = omega (arith, ints, b.right); top = omega (arith, ints, b.top); bottom = omega (arith, ints, b.bottom) }))
    (λ h.
    let b = bounds_of r p h in
    holds_from (record { min = carried r.min from to; max = carried r.max from to }) (carried p from to) (record { left = omega (arith, ints, b.left); right = omega (arith, ints, b.right); top = omega (arith, ints, b.top); bottom = omega (arith, ints, b.bottom) }))

-- the point of a window that stands at a point of its parent
abbrev back : World → ℕ → ℕ → Point → Point
back world p i q = carried q (place_among (image_at world p).windows i).min (image_at world i).r.min

out_back : (world : World) (p i : ℕ) (q : Point) → outward world p i (back world p i q) ≡ q
out_back world p i q = carried-back q (place_among (image_at world p).windows i).min (image_at world i).r.min

-- whether it is hidden
hidden_is : (world : World) (p i : ℕ) (x : Point) (shown : Bool) → parent_of world i ≡ Some p → is_shown world p i (outward world p i x) ≡ shown → is_hidden world i x ≡ not shown
hidden_is world p i x shown stands e =
    ap (λ o. option_map_or (λ parent. if is_shown world parent i (outward world parent i x) then false else true) o false) stands
    ∙ ap (λ b. if b then false else true) e
    ∙ by_shown shown
  where
    by_shown : (b : Bool) → (if b then false else true) ≡ not b
    by_shown true = refl
    by_shown false = refl

pub hides_hidden : (world : World) (p i : ℕ) (part : Rect) → parent_of world i ≡ Some p → hides_on world p i part ≡ true → HasHidden world i part
hides_hidden world p i part stands e =
    or_cases (not (is_inside out (image_at world p).r)) (list_any (λ w. not (is_empty (meet w.place out))) (above i (image_at world p).windows)) e
    (λ first.
    let found = outside_point out (image_at world p).r (not_true (is_inside out (image_at world p).r) first) in
    at found.0 found.1 (ap (λ b. b && is_top (image_at world p).windows i found.0) found.2))
    (λ second.
    let found = some_meets out (above i (image_at world p).windows) second in
    at found.0 found.1 (ap (λ b. holds (image_at world p).r found.0 && b) (covered-not_top (image_at world p).windows i found.0 found.2) ∙ and_false (holds (image_at world p).r found.0)))
  where
    out : Rect
    out = out_rect world p i part

    and_false : (b : Bool) → (b && false) ≡ false
    and_false true = refl
    and_false false = refl

    at : (q : Point) → holds out q ≡ true → is_shown world p i q ≡ false → HasHidden world i part
    at q h none =
        let x = back world p i q in (
          x,
          sym (holds-carried_both part (image_at world i).r.min (place_among (image_at world p).windows i).min x) ∙ ap (holds out) (out_back world p i q) ∙ h,
          hidden_is world p i x false stands (ap (is_shown world p i) (out_back world p i q) ∙ none),
        )

pub hidden_hides : (world : World) (p i : ℕ) (part : Rect) → parent_of world i ≡ Some p → list_any (λ w. w.image == i) (image_at world p).windows ≡ true → ((x : Point) → holds part x ≡ true → holds (place_among (image_at world p).windows i) (outward world p i x) ≡ true) → HasHidden world i part → hides_on world p i part ≡ true
hidden_hides world p i part stands listed inside has = by_inside (holds (image_at world p).r q) refl
  where
    out : Rect
    out = out_rect world p i part

    x : Point
    x = has.0

    q : Point
    q = outward world p i x

    in_out : holds out q ≡ true
    in_out = holds-carried_both part (image_at world i).r.min (place_among (image_at world p).windows i).min x ∙ has.1

    unshown : is_shown world p i q ≡ false
    unshown = by_shown (is_shown world p i q) refl
      where
        by_shown : (b : Bool) → is_shown world p i q ≡ b → is_shown world p i q ≡ false
        by_shown false e = e
        by_shown true e = absurd (false≢true (sym (hidden_is world p i x true stands e) ∙ has.2))

    by_inside : (b : Bool) → holds (image_at world p).r q ≡ b → hides_on world p i part ≡ true
    by_inside true h =
        let not_top : is_top (image_at world p).windows i q ≡ false = sym (ap (λ b. b && is_top (image_at world p).windows i q) h) ∙ unshown in
        or_right (not (is_inside out (image_at world p).r)) _ (meets_some out (above i (image_at world p).windows) q in_out (not_top-covered (image_at world p).windows i q listed (inside x has.1) not_top))
    by_inside false h =
        or_left (not (is_inside out (image_at world p).r)) _ (not_false (is_inside out (image_at world p).r) (by_test (is_inside out (image_at world p).r) refl))
      where
        by_test : (b : Bool) → is_inside out (image_at world p).r ≡ b → b ≡ false
        by_test false e = refl
        by_test true e =
            let in_it : holds (image_at world p).r q ≡ true = (inside_tells out (image_at world p).r (is_inside out (image_at world p).r) refl).0 e q in_out in
            absurd (true≢false (sym in_it ∙ h))

-- a point of a window stands in its place
pub place-inside : (world : World) → IsForest world → HasOnePlaces world → (p i : ℕ) (x : Point) → parent_of world i ≡ Some p → holds (image_at world i).r x ≡ true → holds (place_among (image_at world p).windows i) (outward world p i x) ≡ true
place-inside world ok places p i x stands inside =
    let found = placed world ok places p i stands in
    let place : place_among (image_at world p).windows i ≡ found.0.place = found.3 in
    let size : SameSize found.0.place (image_at world i).r = found.2 in
    let here : holds (image_at world i).r (carried (outward world p i x) found.0.place.min (image_at world i).r.min) ≡ true =
    ap (λ (r : Rect). holds (image_at world i).r (carried (outward world p i x) r.min (image_at world i).r.min)) (sym place)
    ∙ ap (holds (image_at world i).r) (carried-back x (image_at world i).r.min (place_among (image_at world p).windows i).min) ∙ inside in
    ap (λ (r : Rect). holds r (outward world p i x)) place ∙ holds-carried found.0.place (image_at world i).r (outward world p i x) size ∙ here
  where
    placed : (world : World) → IsForest world → HasOnePlaces world → (p i : ℕ) → parent_of world i ≡ Some p → (w : Window) × (w.image ≡ i) × SameSize w.place (image_at world i).r × (place_among (image_at world p).windows i ≡ w.place)
    placed world ok places p i stands =
        let live : IsLive world i = live-standing world i p stands in
        let p_live = ok.parents i p live stands in
        let P : Window → Type 0 = λ w. SameSize w.place (image_at world w.image).r × (place_among (image_at world p).windows w.image ≡ w.place) in
        let all : All P (image_at world p).windows = λ k d lt. ((ok.windows p p_live k d lt).size, places p p_live k d lt) in
        let found = All-listed P (image_at world p).windows i all (ok.listed i p live stands) in (
          found.0,
          found.1,
          subst (λ n. SameSize found.0.place (image_at world n).r) found.1 found.2.0,
          ap (λ n. place_among (image_at world p).windows n) (sym found.1) ∙ found.2.1,
        )
