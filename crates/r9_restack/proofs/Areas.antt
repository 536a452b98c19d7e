-- One more of some areas, and areas that lie apart in a rectangle.
use Rattle.std.proofs.Common.{◌≡◌, ◌∙◌, ℕ, ℤ, ◌≤ℤ◌, int_le, ◌+◌, ◌*◌, ◌<◌, ◌≤◌, Bool, true, false, List, take, length, get_or, sym, ap, arith}
use Rattle.std.specs.Prelude.{◌||◌, nat_lt, sum_by, All}
use Rattle.std.proofs.lemmas.Bool.{and_parts, or_parts}
use Rattle.std.proofs.lemmas.Bool.Decides.{nat_tests}
use Rattle.std.proofs.lemmas.Int.{ints}
use Rattle.std.proofs.lemmas.List.Sums.{sum_by-take-le, sum_by_more}
use Rattle.r9_geom.specs.declared.Point.{Point}
use Rattle.r9_geom.specs.declared.Rect.{Rect}
use Rattle.r9_geom.specs.Geometry.{area_of, holds, is_empty, IsOrdered, IsRectNear}
use Rattle.r9_geom.proofs.GeometryLemmas.{int_le_false, points_span}
use Rattle.r9_region.specs.Region.{covers, how_many_hold}
use Rattle.r9_region.proofs.Points.{covers_is, how_many_more, one_if}
use Rattle.r9_restack.specs.Areas.{AreApartIn}

one_more : (a : Bool) (n m : ℕ) → m ≡ n + one_if a → nat_lt 0 m ≡ (a || nat_lt 0 n)
one_more true n m e = grind (arith, nat_tests)
one_more false n m e = grind (arith, nat_tests)

-- the areas up to one and with it
pub covers_more : (areas : List Rect) (k : ℕ) (d : Rect) (z : Point) → k < length areas → covers (take (k + 1) areas) z ≡ (holds (get_or areas k d) z || covers (take k areas) z)
covers_more areas k d z below =
    covers_is (take (k + 1) areas) z
    ∙ one_more (holds (get_or areas k d) z) (how_many_hold (take k areas) z) (how_many_hold (take (k + 1) areas) z) (how_many_more areas k d z below)
    ∙ ap (λ b. holds (get_or areas k d) z || b) (sym (covers_is (take k areas) z))

-- what one area has no area before it has
pub fresh_area : (areas : List Rect) (k : ℕ) (d : Rect) (z : Point) → how_many_hold areas z ≤ 1 → k < length areas → holds (get_or areas k d) z ≡ true → covers (take k areas) z ≡ false
fresh_area areas k d z once below held =
    covers_is (take k areas) z
    ∙ none_before (how_many_hold (take k areas) z)
    (omega (arith, how_many_more areas k d z below, ap one_if held, sum_by-take-le (λ part. one_if (holds part z)) areas (k + 1), once))
  where
    none_before : (n : ℕ) → n ≤ 0 → nat_lt 0 n ≡ false
    none_before n e = grind (arith, nat_tests)

-- a point of one area is covered
pub covers_at : (areas : List Rect) (k : ℕ) (d : Rect) (z : Point) → k < length areas → holds (get_or areas k d) z ≡ true → covers areas z ≡ true
covers_at areas k d z below held =
    covers_is areas z
    ∙ some (how_many_hold areas z)
    (omega (arith, how_many_more areas k d z below, ap one_if held, sum_by-take-le (λ part. one_if (holds part z)) areas (k + 1)))
  where
    some : (n : ℕ) → 1 ≤ n → nat_lt 0 n ≡ true
    some n e = grind (arith, nat_tests)

-- one more area was written
pub areas_grown : (start was now : ℕ) (areas : List Rect) (k : ℕ) (d : Rect) → k < length areas → now ≤ was + 2 * area_of (get_or areas k d) → was ≤ start + 2 * sum_by area_of (take k areas) → now ≤ start + 2 * sum_by area_of (take (k + 1) areas)
areas_grown start was now areas k d below more so_far = omega (arith, more, so_far, sum_by_more area_of areas k d below)

-- ---- several areas

-- rectangles that have points, all of them in a rectangle, and none in two
pub areas_in : (r : Rect) (areas : List Rect) → IsRectNear r → All (λ area. is_empty area ≡ false) areas → ((z : Point) → how_many_hold areas z ≤ 1) → ((z : Point) → covers areas z ≡ true → holds r z ≡ true) → AreApartIn r areas
areas_in r areas near solid once inside = record {
  near = λ k d below. (spans (get_or areas k d) (solid k d below) (λ z h. inside z (covers_at areas k d z below h))).0;
  ordered = λ k d below. (spans (get_or areas k d) (solid k d below) (λ z h. inside z (covers_at areas k d z below h))).1;
  inside = inside;
  apart = once;
}
  where
    int_le_is : (a b : ℤ) → int_le a b ≡ true → a ≤ℤ b
    int_le_is a b h = grind (arith, ints)

    spans : (s : Rect) → is_empty s ≡ false → ((z : Point) → holds s z ≡ true → holds r z ≡ true) → IsRectNear s × IsOrdered s
    spans s some all =
        let span = points_span s r some all in
        let flat = or_parts (int_le s.max.x s.min.x) (int_le s.max.y s.min.y) some in
        let wide = int_le_false s.max.x s.min.x flat.0 in
        let high = int_le_false s.max.y s.min.y flat.1 in
        let across = and_parts (int_le r.min.x s.min.x) (int_le s.max.x r.max.x) span.across in
        let down = and_parts (int_le r.min.y s.min.y) (int_le s.max.y r.max.y) span.down in
        let a = int_le_is r.min.x s.min.x across.0 in
        let b = int_le_is s.max.x r.max.x across.1 in
        let c = int_le_is r.min.y s.min.y down.0 in
        let e = int_le_is s.max.y r.max.y down.1 in (
          record {
            min = record { left = omega (arith, ints, a, near.min.left); right = omega (arith, ints, wide, b, near.max.right); top = omega (arith, ints, c, near.min.top); bottom = omega (arith, ints, high, e, near.max.bottom) };
            max = record { left = omega (arith, ints, wide, a, near.min.left); right = omega (arith, ints, b, near.max.right); top = omega (arith, ints, high, c, near.min.top); bottom = omega (arith, ints, e, near.max.bottom) };
          },
          record { across = omega (arith, ints, wide); down = omega (arith, ints, high) },
        )
