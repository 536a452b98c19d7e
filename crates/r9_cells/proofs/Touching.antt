-- Rectangles that have points in common, and rectangles of the points of others.
use Rattle.std.proofs.Common.{◌≡◌, ◌∙◌, ℕ, ℤ, ◌<◌, ◌≤ℤ◌, ◌<ℤ◌, suc, zero, true, false, refl, sym, arith, ⊎_elim}
use Rattle.std.specs.Prelude.{◌==◌, int_le}
use Rattle.std.specs.Int.{int_max, int_min}
use Rattle.std.proofs.lemmas.Bool.{cases_Bool, and_from, and_parts, false_from_ne_true, false≢true, or_from, or_left, or_parts, or_right}
use Rattle.std.proofs.lemmas.Int.{ints}
use Rattle.r9_geom.specs.declared.Rect.{Rect}
use Rattle.r9_geom.specs.Geometry.{holds, is_empty, is_inside, meet}
use Rattle.r9_geom.proofs.GeometryLemmas.{bounds_of, empty_holds, empty_since, holds-meet, holds_from, inside_tells, int_le_false}
use Rattle.r9_cells.specs.Fitting.{IsCellIn}
use Rattle.r9_cells.proofs.Spans.{last, last_holds}

le_true : (a b : ℤ) → a ≤ℤ b → int_le a b ≡ true
le_true a b h = grind (arith, ints)

lt_not : (a b : ℤ) → a <ℤ b → int_le b a ≡ false
lt_not a b h = grind (arith, ints)

-- without a common column, or a common row, there is no common point
pub off_across : (r a : Rect) → int_min r.max.x a.max.x ≤ℤ int_max r.min.x a.min.x → is_empty (meet r a) ≡ true
off_across r a h = or_left (int_le (int_min r.max.x a.max.x) (int_max r.min.x a.min.x)) (int_le (int_min r.max.y a.max.y) (int_max r.min.y a.min.y)) (le_true _ _ h)

pub off_down : (r a : Rect) → int_min r.max.y a.max.y ≤ℤ int_max r.min.y a.min.y → is_empty (meet r a) ≡ true
off_down r a h = or_right (int_le (int_min r.max.x a.max.x) (int_max r.min.x a.min.x)) (int_le (int_min r.max.y a.max.y) (int_max r.min.y a.min.y)) (le_true _ _ h)

-- a rectangle without points has none in common
pub none_meets : (r a : Rect) → is_empty r ≡ true → is_empty (meet r a) ≡ true
none_meets r a none =
    empty_since (meet r a)
    (λ p. false_from_ne_true (holds (meet r a) p) (λ h. false≢true (sym (empty_holds r p none) ∙ (and_parts (holds r p) (holds a p) (sym (holds-meet r a p) ∙ h)).0)))

pub meets_none : (r a : Rect) → is_empty a ≡ true → is_empty (meet r a) ≡ true
meets_none r a none =
    empty_since (meet r a)
    (λ p. false_from_ne_true (holds (meet r a) p) (λ h. false≢true (sym (empty_holds a p none) ∙ (and_parts (holds r p) (holds a p) (sym (holds-meet r a p) ∙ h)).1)))

between : (low high from to : ℤ) → low <ℤ high → from <ℤ to → low <ℤ to → from <ℤ high → int_max low from <ℤ int_min high to
between low high from to own other before past = grind (arith, ints)

-- rectangles with points that reach into each other have some in common
pub some_common : (r a : Rect) → is_empty r ≡ false → is_empty a ≡ false → r.min.x <ℤ a.max.x → a.min.x <ℤ r.max.x → r.min.y <ℤ a.max.y → a.min.y <ℤ r.max.y → is_empty (meet r a) ≡ false
some_common r a some other left right top bottom =
    let own = or_parts (int_le r.max.x r.min.x) (int_le r.max.y r.min.y) some in
    let its = or_parts (int_le a.max.x a.min.x) (int_le a.max.y a.min.y) other in
    or_from (int_le (int_min r.max.x a.max.x) (int_max r.min.x a.min.x)) (int_le (int_min r.max.y a.max.y) (int_max r.min.y a.min.y))
    (lt_not _ _ (between r.min.x r.max.x a.min.x a.max.x (int_le_false _ _ own.0) (int_le_false _ _ its.0) left right))
    (lt_not _ _ (between r.min.y r.max.y a.min.y a.max.y (int_le_false _ _ own.1) (int_le_false _ _ its.1) top bottom))

pub same_common : (r a : Rect) → is_empty r ≡ false → r.min.x <ℤ a.max.x → a.min.x <ℤ r.max.x → r.min.y <ℤ a.max.y → a.min.y <ℤ r.max.y → is_empty a ≡ is_empty (meet r a)
same_common r a some left right top bottom =
    ⊎_elim
    (λ (e : is_empty a ≡ true). e ∙ sym (meets_none r a e))
    (λ (e : is_empty a ≡ false). e ∙ sym (some_common r a some e left right top bottom))
    (cases_Bool (is_empty a))

-- a rectangle that reaches as far as another on all sides has its points
pub spanned : (a : Rect) (left top right bottom : ℤ) → left ≤ℤ a.min.x → top ≤ℤ a.min.y → a.max.x ≤ℤ right → a.max.y ≤ℤ bottom → is_inside a (record { min = record { x = left; y = top }; max = record { x = right; y = bottom } }) ≡ true
spanned a left top right bottom l t r b =
    let all : Rect = record { min = record { x = left; y = top }; max = record { x = right; y = bottom } } in
    (inside_tells a all (is_inside a all) refl).1
    (λ p h.
    let s = bounds_of a p h in
    holds_from all p (record { left = omega (arith, ints, s.left, l); right = omega (arith, ints, s.right, r); top = omega (arith, ints, s.top, t); bottom = omega (arith, ints, s.bottom, b) }))

pub inside_through : (part a all : Rect) → is_inside part a ≡ true → is_inside a all ≡ true → is_inside part all ≡ true
inside_through part a all first second =
    (inside_tells part all (is_inside part all) refl).1
    (λ p h. (inside_tells a all (is_inside a all) refl).0 second p ((inside_tells part a (is_inside part a) refl).0 first p h))

-- a part that has points is not inside what its rectangle has no point of
pub cell_off : (below out part : Rect) → IsCellIn out part → is_empty (meet out below) ≡ true → is_inside part below ≡ false
cell_off below out part cell off =
    false_from_ne_true (is_inside part below)
    (λ inside.
    let p = last part in
    let here = last_holds part cell.some in
    let there = (inside_tells part out (is_inside part out) refl).0 cell.inside p here in
    let shown = (inside_tells part below (is_inside part below) refl).0 inside p here in
    false≢true (sym (empty_holds (meet out below) p off) ∙ holds-meet out below p ∙ and_from (holds out p) (holds below p) there shown))

pub some_length : (n : ℕ) → (n == 0) ≡ false → 0 < n
some_length zero e = absurd (false≢true (sym e))
some_length (suc n) e = omega arith
