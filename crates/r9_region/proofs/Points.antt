-- How many of some rectangles hold a point, and whether one does.
use Rattle.std.proofs.Common.{◌≡◌, ◌∙◌, ℕ, pos, ◌+◌, ◌≤◌, ◌<◌, Bool, true, false, cond, ◌&&◌, ◌||◌, not, List, [], ◌∷◌, ◌++◌, take, length, get_or, refl, ap, sym, arith}
use Rattle.std.specs.Prelude.{if◌then◌else◌, nat_lt}
use Rattle.std.proofs.lemmas.List.Sums.{sum_by-append, sum_by-cons, sum_by_more}
use Rattle.std.proofs.lemmas.Bool.Decides.{nat_tests}
use Rattle.r9_geom.specs.declared.Point.{Point}
use Rattle.r9_geom.specs.declared.Rect.{Rect}
use Rattle.r9_geom.specs.Geometry.{holds}
use Rattle.r9_region.specs.Region.{covers, how_many_hold}

-- one for a rectangle that holds the point
abbrev pub one_if : Bool → ℕ
one_if held = cond held 1 0

-- the rectangle that stands for one past the end of a list
abbrev pub nowhere : Rect
nowhere = record { min = record { x = pos 0; y = pos 0 }; max = record { x = pos 0; y = pos 0 } }

pub how_many-append : (xs ys : List Rect) (p : Point) → how_many_hold (xs ++ ys) p ≡ how_many_hold xs p + how_many_hold ys p
how_many-append xs ys p = sum_by-append (λ part. one_if (holds part p)) xs ys

pub how_many-cons : (x : Rect) (xs : List Rect) (p : Point) → how_many_hold (x ∷ xs) p ≡ one_if (holds x p) + how_many_hold xs p
how_many-cons x xs p = sum_by-cons (λ part. one_if (holds part p)) x xs

pub how_many_more : (xs : List Rect) (i : ℕ) (d : Rect) (p : Point) → i < length xs → how_many_hold (take (i + 1) xs) p ≡ how_many_hold (take i xs) p + one_if (holds (get_or xs i d) p)
how_many_more xs i d p h = sum_by_more (λ part. one_if (holds part p)) xs i d h

or_above : (a b : Bool) (m n : ℕ) → b ≡ nat_lt 0 n → m ≡ one_if a + n → (a || b) ≡ nat_lt 0 m
or_above true b m n h e = grind (arith, nat_tests)
or_above false b m n h e = grind (arith, nat_tests)

-- one holds the point where it is not none that do
pub covers_is : (xs : List Rect) (p : Point) → covers xs p ≡ nat_lt 0 (how_many_hold xs p)
covers_is [] p = refl
covers_is (x ∷ xs) p = or_above (holds x p) (covers xs p) _ _ (covers_is xs p) (how_many-cons x xs p)

one_at_most : (n : ℕ) → n ≤ 1 → n ≡ (if nat_lt 0 n then 1 else 0)
one_at_most n h = grind (arith, nat_tests)

pub how_many_is : (xs : List Rect) (p : Point) → how_many_hold xs p ≤ 1 → how_many_hold xs p ≡ (if covers xs p then 1 else 0)
how_many_is xs p h = one_at_most (how_many_hold xs p) h ∙ ap (λ b. if b then 1 else 0) (sym (covers_is xs p))

pub how_many-push : (xs : List Rect) (x : Rect) (p : Point) → how_many_hold (xs ++ x ∷ []) p ≡ how_many_hold xs p + one_if (holds x p)
how_many-push xs x p = omega (arith, how_many-append xs (x ∷ []) p)

-- one more rectangle of a list went to the end of another
pub push_step : (a : ℕ) (out pieces : List Rect) (i : ℕ) (d : Rect) (p : Point) → i < length pieces → how_many_hold out p ≡ a + how_many_hold (take i pieces) p → how_many_hold (out ++ get_or pieces i d ∷ []) p ≡ a + how_many_hold (take (i + 1) pieces) p
push_step a out pieces i d p h e = omega (arith, how_many-push out (get_or pieces i d) p, how_many_more pieces i d p h)

-- one more rectangle of a list does not hold the point
pub skip_step : (a : ℕ) (out pieces : List Rect) (i : ℕ) (d : Rect) (p : Point) → i < length pieces → holds (get_or pieces i d) p ≡ false → how_many_hold out p ≡ a + how_many_hold (take i pieces) p → how_many_hold out p ≡ a + how_many_hold (take (i + 1) pieces) p
skip_step a out pieces i d p h none e = omega (arith, how_many_more pieces i d p h, ap one_if none)

-- what one more rectangle has outside another joins what those before it have there
pub outside_step : (r x : Bool) (new left pieces before after : ℕ) → new ≡ left + pieces → left ≡ (if r then 0 else before) → pieces ≡ (if x && not r then 1 else 0) → after ≡ before + one_if x → new ≡ (if r then 0 else after)
outside_step true true new left pieces before after e f g h = omega arith
outside_step true false new left pieces before after e f g h = omega arith
outside_step false true new left pieces before after e f g h = omega arith
outside_step false false new left pieces before after e f g h = omega arith

pub added_apart : (r : Bool) (new left old : ℕ) → new ≡ left + one_if r → left ≡ (if r then 0 else old) → old ≤ 1 → new ≤ 1
added_apart true new left old e f h = omega arith
added_apart false new left old e f h = omega arith

pub added_points : (r : Bool) (new left old : ℕ) → new ≡ left + one_if r → left ≡ (if r then 0 else old) → nat_lt 0 new ≡ (nat_lt 0 old || r)
added_points true new left old e f = grind (arith, nat_tests)
added_points false new left old e f = grind (arith, nat_tests)

pub cut_apart : (r : Bool) (new old : ℕ) → new ≡ (if r then 0 else old) → old ≤ 1 → new ≤ 1
cut_apart true new old e h = omega arith
cut_apart false new old e h = omega arith

pub cut_points : (r : Bool) (new old : ℕ) → new ≡ (if r then 0 else old) → nat_lt 0 new ≡ (nat_lt 0 old && not r)
cut_points true new old e = grind (arith, nat_tests)
cut_points false new old e = grind (arith, nat_tests)

-- which points are covered, from how many rectangles hold each
pub covers_both : (new old : List Rect) (p : Point) (f : Bool → Bool) → nat_lt 0 (how_many_hold new p) ≡ f (nat_lt 0 (how_many_hold old p)) → covers new p ≡ f (covers old p)
covers_both new old p f e = covers_is new p ∙ e ∙ ap f (sym (covers_is old p))
