-- What is left of rectangles within another one.
use Rattle.std.proofs.Common.{◌≡◌, ◌∙◌, ℕ, ◌+◌, ◌≤◌, Bool, true, false, cond, ◌&&◌, not, List, [], ◌∷◌, map, All, refl, ap, sym, arith}
use Rattle.std.specs.Prelude.{if◌then◌else◌, nat_lt}
use Rattle.std.specs.List.{filter}
use Rattle.std.proofs.lemmas.List.Elements.{filter_passes}
use Rattle.std.proofs.lemmas.Bool.Decides.{nat_tests}
use Rattle.r9_geom.specs.declared.Point.{Point}
use Rattle.r9_geom.specs.declared.Rect.{Rect}
use Rattle.r9_geom.specs.Geometry.{holds, is_empty, meet}
use Rattle.r9_geom.proofs.GeometryLemmas.{empty_holds, holds-meet}
use Rattle.r9_region.specs.Region.{how_many_hold}
use Rattle.r9_region.proofs.Points.{how_many-cons, one_if}

abbrev pub is_solid : Rect → Bool
is_solid part = not (is_empty part)

abbrev pub narrowed : List Rect → Rect → List Rect
narrowed parts r = filter is_solid (map (λ part. meet part r) parts)

narrowed_none : (r : Bool) → let none : ℕ = 0 in none ≡ (if r then none else none)
narrowed_none true = refl
narrowed_none false = refl

first_kept : (x r m : Bool) (rest before : ℕ) → m ≡ (x && r) → rest ≡ (if r then before else 0) → one_if m + rest ≡ (if r then one_if x + before else 0)
first_kept true true m rest before f e = omega (arith, ap one_if f)
first_kept true false m rest before f e = omega (arith, ap one_if f)
first_kept false true m rest before f e = omega (arith, ap one_if f)
first_kept false false m rest before f e = omega (arith, ap one_if f)

first_dropped : (x r : Bool) (rest before : ℕ) → rest ≡ (if r then before else 0) → (x && r) ≡ false → rest ≡ (if r then one_if x + before else 0)
first_dropped true true rest before e f = grind arith
first_dropped true false rest before e f = e
first_dropped false true rest before e f = omega arith
first_dropped false false rest before e f = e

-- the rest of the list after its first rectangle
narrowed_more : (x r : Rect) (xs rest : List Rect) (p : Point) (flat : Bool) → is_empty (meet x r) ≡ flat → how_many_hold rest p ≡ (if holds r p then how_many_hold xs p else 0) → how_many_hold (cond (not flat) (meet x r ∷ rest) rest) p ≡ (if holds r p then how_many_hold (x ∷ xs) p else 0)
narrowed_more x r xs rest p true flat e =
    first_dropped (holds x p) (holds r p) (how_many_hold rest p) (how_many_hold xs p) e (sym (holds-meet x r p) ∙ empty_holds (meet x r) p flat)
    ∙ ap (λ n. if holds r p then n else 0) (sym (how_many-cons x xs p))
narrowed_more x r xs rest p false flat e =
    how_many-cons (meet x r) rest p
    ∙ first_kept (holds x p) (holds r p) (holds (meet x r) p) (how_many_hold rest p) (how_many_hold xs p) (holds-meet x r p) e
    ∙ ap (λ n. if holds r p then n else 0) (sym (how_many-cons x xs p))

pub how_many-narrowed : (xs : List Rect) (r : Rect) (p : Point) → how_many_hold (narrowed xs r) p ≡ (if holds r p then how_many_hold xs p else 0)
how_many-narrowed [] r p = narrowed_none (holds r p)
how_many-narrowed (x ∷ xs) r p =
    narrowed_more x r xs (narrowed xs r) p (is_empty (meet x r)) refl (how_many-narrowed xs r p)

solid_of : (b : Bool) → not b ≡ true → b ≡ false
solid_of true h = sym h
solid_of false h = refl

pub narrowed_solid : (xs : List Rect) (r : Rect) → All (λ part. is_empty part ≡ false) (narrowed xs r)
narrowed_solid xs r k d h = solid_of _ (filter_passes is_solid (map (λ part. meet part r) xs) k d h)

pub within_apart : (r : Bool) (new old : ℕ) → new ≡ (if r then old else 0) → old ≤ 1 → new ≤ 1
within_apart true new old e h = omega arith
within_apart false new old e h = omega arith

pub within_points : (r : Bool) (new old : ℕ) → new ≡ (if r then old else 0) → nat_lt 0 new ≡ (nat_lt 0 old && r)
within_points true new old e = grind (arith, nat_tests)
within_points false new old e = grind (arith, nat_tests)
