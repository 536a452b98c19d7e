-- The points of a rectangle that is repeated without end.
use Rattle.std.proofs.Common.{◌≡◌, ◌∙◌, ℕ, ℤ, pos, negsuc, ◌+◌, ◌-◌, ◌*◌, ◌/◌, ◌%◌, ◌<◌, ◌≤◌, ◌+ℤ◌, ◌-ℤ◌, ◌<ℤ◌, true, refl, ap, sym, arith}
use Rattle.std.specs.Int.{int_rem_euclid}
use Rattle.std.proofs.lemmas.Int.{ints, int_rem_euclid_is}
use Rattle.std.proofs.lemmas.Nat.{same_from_place}
use Rattle.r9_geom.specs.declared.Point.{Point}
use Rattle.r9_geom.specs.declared.Rect.{Rect}
use Rattle.r9_geom.specs.Geometry.{distance, height, holds, natural, reduced, strip, width, HasPoints, IsOrdered}
use Rattle.r9_geom.proofs.GeometryLemmas.{bounds_of, corner, distance_below, distance_is, holds_from, natural_is, same_point}
use Rattle.r9_plane.specs.Pixels.{along}

mod_next : (m j n : ℕ) → m % n + j < n → (m + j) % n ≡ m % n + j
mod_next m j n fits =
    let some : 0 < n = omega arith in
    (same_from_place ((m + j) / n) ((m + j) % n) (m / n) (m % n + j) n (omega arith) fits (omega arith)).1

-- a remainder and some more steps, where they do not pass the end
rem_from : (z : ℤ) (n k m j : ℕ) → 0 < n → z +ℤ pos (k * n) ≡ pos m → (int_rem_euclid z (pos n) +ℤ pos j) <ℤ pos n → int_rem_euclid (z +ℤ pos j) (pos n) ≡ int_rem_euclid z (pos n) +ℤ pos j
rem_from z n k m j some is fits =
    let here = int_rem_euclid_is z (pos n) n k m some refl is in
    let there = int_rem_euclid_is (z +ℤ pos j) (pos n) n k (m + j) some refl (omega (arith, ints, is)) in
    let below : m % n + j < n = omega (arith, ints, here, fits) in
    there ∙ ap pos (mod_next m j n below) ∙ omega (arith, ints, here)

pub rem_next : (z : ℤ) (n j : ℕ) → 0 < n → (int_rem_euclid z (pos n) +ℤ pos j) <ℤ pos n → int_rem_euclid (z +ℤ pos j) (pos n) ≡ int_rem_euclid z (pos n) +ℤ pos j
rem_next (pos a) n j some fits = rem_from (pos a) n 0 a j some (omega (arith, ints)) fits
rem_next (negsuc a) n j some fits =
    let more : a + 1 ≤ (a + 1) * n = enough (a + 1) n some in
    rem_from (negsuc a) n (a + 1) ((a + 1) * n - (a + 1)) j some (omega (arith, ints, more)) fits
  where
    enough : (b n : ℕ) → 0 < n → b ≤ b * n
    enough b n some = grind arith

-- the points to the right of one of the rectangle's, up to its edge
pub reduced_run : (r : Rect) (from : Point) (d j : ℕ) → HasPoints r → j < distance (reduced r (along from d)).x r.max.x → along (reduced r (along from d)) j ≡ reduced r (along from (d + j))
reduced_run r from d j some below =
    let n = natural (r.max.x -ℤ r.min.x) in
    let size : pos n ≡ r.max.x -ℤ r.min.x = natural_is (r.max.x -ℤ r.min.x) (omega (arith, ints, some.across)) in
    let z = from.x +ℤ pos d -ℤ r.min.x in
    let rest = int_rem_euclid z (pos n) in
    let here : int_rem_euclid z (r.max.x -ℤ r.min.x) ≡ rest = ap (int_rem_euclid z) (sym size) in
    let edge = distance_below (reduced r (along from d)).x r.max.x j below in
    let fits : (rest +ℤ pos j) <ℤ pos n = omega (arith, ints, edge, here, size) in
    let positive : 0 < n = omega (arith, ints, size, some.across) in
    let next = rem_next z n j positive fits in
    let there : int_rem_euclid (from.x +ℤ pos (d + j) -ℤ r.min.x) (r.max.x -ℤ r.min.x) ≡ int_rem_euclid (z +ℤ pos j) (pos n) =
    λ i. int_rem_euclid (shifted from.x r.min.x d j i) (sym size i) in
    same_point (along (reduced r (along from d)) j) (reduced r (along from (d + j)))
    (omega (arith, ints, here, next, there)) refl
  where
    shifted : (x low : ℤ) (d j : ℕ) → x +ℤ pos (d + j) -ℤ low ≡ x +ℤ pos d -ℤ low +ℤ pos j
    shifted x low d j = omega (arith, ints)

-- a strip within the rest of a row
pub run_inside : (r : Rect) (p q : Point) (n : ℕ) → holds r p ≡ true → n ≤ distance p.x r.max.x → holds (strip p n) q ≡ true → holds r q ≡ true
run_inside r p q n inside fits h =
    let a = bounds_of r p inside in
    let b = bounds_of (strip p n) q h in
    let edge = distance_is p.x r.max.x (omega (arith, ints, a.right)) in
    holds_from r q (record {
      left = omega (arith, ints, a.left, b.left);
      right = omega (arith, ints, edge, b.right, fits);
      top = omega (arith, ints, a.top, b.top);
      bottom = omega (arith, ints, a.bottom, b.bottom);
    })

rem_one : (z d : ℤ) → d ≡ pos 1 → int_rem_euclid z d ≡ pos 0
rem_one (pos a) d one = ap (int_rem_euclid (pos a)) one ∙ ap pos (omega arith)
rem_one (negsuc a) d one = ap (int_rem_euclid (negsuc a)) one ∙ ap pos (omega arith)

-- a single point stands for all
pub reduced_single : (r : Rect) (p : Point) → width r ≡ 1 → height r ≡ 1 → reduced r p ≡ r.min
reduced_single r p across down =
    let columns : r.max.x -ℤ r.min.x ≡ pos 1 = one_apart (r.max.x -ℤ r.min.x) across in
    let rows : r.max.y -ℤ r.min.y ≡ pos 1 = one_apart (r.max.y -ℤ r.min.y) down in
    let x = rem_one (p.x -ℤ r.min.x) (r.max.x -ℤ r.min.x) columns in
    let y = rem_one (p.y -ℤ r.min.y) (r.max.y -ℤ r.min.y) rows in
    same_point (reduced r p) r.min (omega (arith, ints, x)) (omega (arith, ints, y))
  where
    one_apart : (z : ℤ) → natural z ≡ 1 → z ≡ pos 1
    one_apart (pos n) e = ap pos e
    one_apart (negsuc n) e = absurd (omega arith)

pub single_point : (r : Rect) → IsOrdered r → width r ≡ 1 → height r ≡ 1 → holds r r.min ≡ true
single_point r ordered wide tall =
    let across = distance_is r.min.x r.max.x ordered.across in
    let down = distance_is r.min.y r.max.y ordered.down in
    corner r (omega (arith, ints, across, wide)) (omega (arith, ints, down, tall))
