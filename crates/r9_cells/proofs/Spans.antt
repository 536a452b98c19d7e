-- Rectangles that have no point of some areas, and windows that stand over points of each cell of another.
use Rattle.std.proofs.Common.{◌≡◌, ◌≢◌, ◌∙◌, ◌≤ℤ◌, ◌<ℤ◌, ◌+ℤ◌, ◌-ℤ◌, pos, suc, Bool, true, false, All, List, [], ◌∷◌, Option, Some, length, refl, sym, ap, arith, ⊎_elim}
use Rattle.std.specs.Prelude.{◌==◌, ◌||◌, int_le, not}
use Rattle.std.specs.List.{list_any}
use Rattle.std.proofs.lemmas.Bool.{and_from, and_parts, false_from_ne_true, false≢true, ne_eqb, or_from, or_left, or_parts, or_right}
use Rattle.std.proofs.lemmas.Int.{ints}
use Rattle.r9_geom.specs.declared.Point.{Point}
use Rattle.r9_geom.specs.declared.Rect.{Rect}
use Rattle.r9_geom.specs.Geometry.{holds, is_empty, is_inside, meet}
use Rattle.r9_geom.proofs.GeometryLemmas.{bounds_of, empty_holds, empty_since, holds-meet, holds_from, inside_tells, int_le_false}
use Rattle.r9_cells.specs.Fitting.{meets, IsCellIn, IsSpan}

-- what has no point of a rectangle has none of another that lies in it
pub off_larger : (r a all : Rect) → is_inside a all ≡ true → is_empty (meet r all) ≡ true → is_empty (meet r a) ≡ true
off_larger r a all inside off =
    empty_since (meet r a)
    (λ p.
    false_from_ne_true (holds (meet r a) p)
    (λ h.
    let both = and_parts (holds r p) (holds a p) (sym (holds-meet r a p) ∙ h) in
    let there : holds all p ≡ true = (inside_tells a all (is_inside a all) refl).0 inside p both.1 in
    false≢true (sym (empty_holds (meet r all) p off) ∙ holds-meet r all p ∙ and_from (holds r p) (holds all p) both.0 there)))

off_each : (areas : List Rect) (r all : Rect) → All (λ a. is_inside a all ≡ true) areas → is_empty (meet r all) ≡ true → list_any (λ a. not (is_empty (meet r a))) areas ≡ false
off_each [] r all each off = refl
off_each (a ∷ areas) r all each off =
    or_from (not (is_empty (meet r a))) (list_any (λ (b : Rect). not (is_empty (meet r b))) areas)
    (ap not (off_larger r a all (each 0 a (omega arith)) off))
    (off_each areas r all (λ k d below. each (suc k) d (omega (arith, below))) off)

some_areas : (areas : List Rect) → areas ≢ [] → (length areas == 0) ≡ false
some_areas [] some = absurd (some refl)
some_areas (a ∷ areas) some = ne_eqb (length (a ∷ areas)) 0 (λ e. absurd (omega (arith, e)))

-- what has no point of a span meets none of the areas
pub off_span : (near : Option Rect) (areas : List Rect) (r all : Rect) → IsSpan near areas → near ≡ Some all → is_empty (meet r all) ≡ true → meets areas r ≡ false
off_span near areas r all span is off =
    or_from (length areas == 0) (list_any (λ (a : Rect). not (is_empty (meet r a))) areas) (some_areas areas (span.some all is)) (off_each areas r all (span.all all is) off)

-- nor does anything where that is empty
pub off_nowhere : (near : Option Rect) (areas : List Rect) (r all : Rect) → IsSpan near areas → near ≡ Some all → is_empty all ≡ true → meets areas r ≡ false
off_nowhere near areas r all span is none =
    off_span near areas r all span is
    (empty_since (meet r all)
    (λ p.
    false_from_ne_true (holds (meet r all) p)
    (λ h. false≢true (sym (empty_holds all p none) ∙ (and_parts (holds r p) (holds all p) (sym (holds-meet r all p) ∙ h)).1))))

-- the last point of a rectangle
abbrev pub last : Rect → Point
last r = record { x = r.max.x -ℤ pos 1; y = r.max.y -ℤ pos 1 }

pub last_holds : (r : Rect) → is_empty r ≡ false → holds r (last r) ≡ true
last_holds r some =
    let parts = or_parts (int_le r.max.x r.min.x) (int_le r.max.y r.min.y) some in
    let x = int_le_false r.max.x r.min.x parts.0 in
    let y = int_le_false r.max.y r.min.y parts.1 in
    holds_from r (last r) (record { left = omega (arith, ints, x); right = omega (arith, ints); top = omega (arith, ints, y); bottom = omega (arith, ints) })

-- a rectangle with the last point of a place and points of its first cell has points of each cell
pub buried : (w out part : Rect) → IsCellIn out part → out.max.x ≤ℤ w.max.x → out.max.y ≤ℤ w.max.y → w.min.x <ℤ out.max.x → w.min.y <ℤ out.max.y → w.min.x <ℤ (out.min.x +ℤ pos 32) → w.min.y <ℤ (out.min.y +ℤ pos 32) → is_empty (meet w part) ≡ false
buried w out part cell right bottom left top near_left near_top =
    let p = last part in
    let here = last_holds part cell.some in
    let there = bounds_of out p ((inside_tells part out (is_inside part out) refl).0 cell.inside p here) in
    let over : holds w p ≡ true = holds_from w p (record {
      left = ⊎_elim (λ (wide : (out.min.x +ℤ pos 32) ≤ℤ part.max.x). omega (arith, ints, wide, near_left)) (λ (end : out.max.x ≤ℤ part.max.x). omega (arith, ints, end, left)) cell.across;
      right = omega (arith, ints, there.right, right);
      top = ⊎_elim (λ (high : (out.min.y +ℤ pos 32) ≤ℤ part.max.y). omega (arith, ints, high, near_top)) (λ (end : out.max.y ≤ℤ part.max.y). omega (arith, ints, end, top)) cell.down;
      bottom = omega (arith, ints, there.bottom, bottom);
    }) in
    false_from_ne_true (is_empty (meet w part))
    (λ e. false≢true (sym (empty_holds (meet w part) p e) ∙ holds-meet w part p ∙ and_from (holds w p) (holds part p) over here))

-- a part of a rectangle that lies in one of some areas meets it
pub lies_meets : (areas : List Rect) (r part : Rect) → ((length areas == 0) || list_any (λ a. is_inside r a) areas) ≡ true → is_inside part r ≡ true → is_empty part ≡ false → meets areas part ≡ true
lies_meets areas r part lies inside some = by_count (length areas == 0) lies
  where
    p : Point
    p = last part

    here : holds part p ≡ true
    here = last_holds part some

    within : holds r p ≡ true
    within = (inside_tells part r (is_inside part r) refl).0 inside p here

    touched : (a : Rect) → is_inside r a ≡ true → not (is_empty (meet part a)) ≡ true
    touched a lying =
        let there : holds a p ≡ true = (inside_tells r a (is_inside r a) refl).0 lying p within in
        ap not (false_from_ne_true (is_empty (meet part a)) (λ e. false≢true (sym (empty_holds (meet part a) p e) ∙ holds-meet part a p ∙ and_from (holds part p) (holds a p) here there)))

    one_touched : (some : List Rect) → list_any (λ a. is_inside r a) some ≡ true → list_any (λ a. not (is_empty (meet part a))) some ≡ true
    one_touched [] any = any
    one_touched (a ∷ rest) any = by_test (one_touched rest) (is_inside r a) refl any
      where
        by_test : (list_any (λ c. is_inside r c) rest ≡ true → list_any (λ c. not (is_empty (meet part c))) rest ≡ true) → (b : Bool) → is_inside r a ≡ b → (b || list_any (λ c. is_inside r c) rest) ≡ true → (not (is_empty (meet part a)) || list_any (λ c. not (is_empty (meet part c))) rest) ≡ true
        by_test others true e more = or_left (not (is_empty (meet part a))) (list_any (λ (c : Rect). not (is_empty (meet part c))) rest) (touched a e)
        by_test others false e more = or_right (not (is_empty (meet part a))) (list_any (λ (c : Rect). not (is_empty (meet part c))) rest) (others more)

    by_count : (b : Bool) → (b || list_any (λ a. is_inside r a) areas) ≡ true → (b || list_any (λ a. not (is_empty (meet part a))) areas) ≡ true
    by_count true any = refl
    by_count false any = one_touched areas any
