-- Blocks of points over which no edge of a rectangle lies.
use Rattle.std.proofs.Common.{◌≡◌, ◌-◌, ◌^◌, ◌≤◌, ◌≤ℤ◌, ◌<ℤ◌, ℕ, ℤ, pos, negsuc, true, arith}
use Rattle.std.specs.Int.{saturate_to_bits}
use Rattle.std.proofs.lemmas.Int.{ints}
use Rattle.r9_geom.specs.declared.Point.{Point}
use Rattle.r9_geom.specs.declared.Rect.{Rect}
use Rattle.r9_geom.specs.Geometry.{distance, holds}
use Rattle.r9_geom.proofs.GeometryLemmas.{bounds_of, distance_is, holds_from, same_tests}
use Rattle.r9_shown.specs.Shown.{block}

-- what is from a sum of 64 bits on, and is not the last number of these, is from the whole sum on
pub from_saturated : (z at high : ℤ) → saturate_to_bits 63 z ≤ℤ at → at <ℤ high → high ≤ℤ pos (2 ^ 63 - 1) → z ≤ℤ at
from_saturated (pos n) at high from before most = omega (arith, ints, from, before, most)
from_saturated (negsuc n) at high from before most = omega (arith, ints, from)

-- one to the right of the rectangle, or below it
pub cut_right : (r : Rect) (q z : Point) (columns rows : ℕ) → r.max.x ≤ℤ q.x → holds (block q columns rows) z ≡ true → holds r z ≡ holds r q
cut_right r q z columns rows right h =
    let b = bounds_of (block q columns rows) z h in
    same_tests (holds r z) (holds r q)
    (λ k. let c = bounds_of r z k in absurd (omega (arith, ints, right, b.left, c.right)))
    (λ k. let c = bounds_of r q k in absurd (omega (arith, ints, right, c.right)))

pub cut_below : (r : Rect) (q z : Point) (columns rows : ℕ) → r.max.y ≤ℤ q.y → holds (block q columns rows) z ≡ true → holds r z ≡ holds r q
cut_below r q z columns rows below h =
    let b = bounds_of (block q columns rows) z h in
    same_tests (holds r z) (holds r q)
    (λ k. let c = bounds_of r z k in absurd (omega (arith, ints, below, b.top, c.bottom)))
    (λ k. let c = bounds_of r q k in absurd (omega (arith, ints, below, c.bottom)))

-- one to its left, or above it
pub cut_before : (r : Rect) (q z : Point) (columns rows : ℕ) → q.x <ℤ r.min.x → columns ≤ distance q.x r.min.x → holds (block q columns rows) z ≡ true → holds r z ≡ holds r q
cut_before r q z columns rows left few h =
    let b = bounds_of (block q columns rows) z h in
    let d = distance_is q.x r.min.x (omega (arith, ints, left)) in
    same_tests (holds r z) (holds r q)
    (λ k. let c = bounds_of r z k in absurd (omega (arith, ints, d, few, b.right, c.left)))
    (λ k. let c = bounds_of r q k in absurd (omega (arith, ints, left, c.left)))

pub cut_above : (r : Rect) (q z : Point) (columns rows : ℕ) → q.y <ℤ r.min.y → rows ≤ distance q.y r.min.y → holds (block q columns rows) z ≡ true → holds r z ≡ holds r q
cut_above r q z columns rows above few h =
    let b = bounds_of (block q columns rows) z h in
    let d = distance_is q.y r.min.y (omega (arith, ints, above)) in
    same_tests (holds r z) (holds r q)
    (λ k. let c = bounds_of r z k in absurd (omega (arith, ints, d, few, b.bottom, c.top)))
    (λ k. let c = bounds_of r q k in absurd (omega (arith, ints, above, c.top)))

-- one within it
pub cut_within : (r : Rect) (q z : Point) (columns rows : ℕ) → r.min.x ≤ℤ q.x → q.x <ℤ r.max.x → r.min.y ≤ℤ q.y → q.y <ℤ r.max.y → columns ≤ distance q.x r.max.x → rows ≤ distance q.y r.max.y → holds (block q columns rows) z ≡ true → holds r z ≡ holds r q
cut_within r q z columns rows left right top bottom few low h =
    let b = bounds_of (block q columns rows) z h in
    let x = distance_is q.x r.max.x (omega (arith, ints, right)) in
    let y = distance_is q.y r.max.y (omega (arith, ints, bottom)) in
    same_tests (holds r z) (holds r q)
    (λ k. holds_from r q (record { left = left; right = right; top = top; bottom = bottom }))
    (λ k. holds_from r z (record {
      left = omega (arith, ints, left, b.left);
      right = omega (arith, ints, x, few, b.right);
      top = omega (arith, ints, top, b.top);
      bottom = omega (arith, ints, y, low, b.bottom);
    }))
