-- Which cells of a rectangle a part of it touches.
use Rattle.std.proofs.Common.{◌≡◌, ◌∙◌, ℕ, ◌+◌, ◌*◌, ◌≤◌, true, false, ap, arith, pos, ◌+ℤ◌, ⊎_elim}
use Rattle.std.specs.Prelude.{ℤ, ◌&&◌, ◌-ℤ◌, ◌<ℤ◌, ◌≤ℤ◌, int_le}
use Rattle.std.proofs.lemmas.Int.{ints}
use Rattle.std.proofs.lemmas.Bool.{or_cases, or_parts}
use Rattle.std.proofs.lemmas.Nat.{mul-le}
use Rattle.std.proofs.Math.Bool.{and-false}
use Rattle.std.proofs.Math.Nat.{mul_comm}
use Rattle.r9_geom.specs.declared.Point.{Point}
use Rattle.r9_geom.specs.declared.Rect.{Rect}
use Rattle.r9_geom.specs.Geometry.{area_of, distance, height, holds, is_empty, strip, width, IsOrdered}
use Rattle.r9_geom.proofs.GeometryLemmas.{bounds_of, corner, distance_is, holds_from, int_le_false, same_point}
use Rattle.r9_marks.specs.marks.Cells.{touches}
use Rattle.r9_plane.specs.Marks.{touched}

-- a part with a point, within a rectangle
pub record IsInner (r part : Rect) : Type 0 where
  pub left : r.min.x ≤ℤ part.min.x
  pub right : part.max.x ≤ℤ r.max.x
  pub top : r.min.y ≤ℤ part.min.y
  pub bottom : part.max.y ≤ℤ r.max.y
  pub across : part.min.x <ℤ part.max.x
  pub down : part.min.y <ℤ part.max.y

pub inner_of : (r part : Rect) → is_empty part ≡ false → ((p : Point) → holds part p ≡ true → holds r p ≡ true) → IsInner r part
inner_of r part solid all =
    let parts = or_parts _ _ solid in
    let across = int_le_false part.max.x part.min.x parts.0 in
    let down = int_le_false part.max.y part.min.y parts.1 in
    let last : Point = record { x = part.max.x -ℤ pos 1; y = part.max.y -ℤ pos 1 } in
    let first = bounds_of r part.min (all part.min (corner part across down)) in
    let end = bounds_of r last (all last (holds_from part last (record { left = omega (arith, ints, across); right = omega (arith, ints); top = omega (arith, ints, down); bottom = omega (arith, ints) }))) in
    record {
      left = first.left;
      right = omega (arith, ints, end.right);
      top = first.top;
      bottom = omega (arith, ints, end.bottom);
      across = across;
      down = down;
    }

pub columns_fit : (r part : Rect) → IsInner r part → distance r.min.x part.min.x + width part ≤ width r
columns_fit r part is =
    let before = distance_is r.min.x part.min.x is.left in
    let own = distance_is part.min.x part.max.x (omega (arith, ints, is.across)) in
    let all = distance_is r.min.x r.max.x (omega (arith, ints, is.left, is.across, is.right)) in
    omega (arith, ints, before, own, all, is.right)

pub rows_fit : (r part : Rect) → IsInner r part → distance r.min.y part.min.y + height part ≤ height r
rows_fit r part is =
    let before = distance_is r.min.y part.min.y is.top in
    let own = distance_is part.min.y part.max.y (omega (arith, ints, is.down)) in
    let all = distance_is r.min.y r.max.y (omega (arith, ints, is.top, is.down, is.bottom)) in
    omega (arith, ints, before, own, all, is.bottom)

-- it has no more points
pub area_fits : (r part : Rect) → IsInner r part → area_of part ≤ height r * width r
area_fits r part is =
    let narrow : width part ≤ width r = omega (arith, columns_fit r part is) in
    let low : height part ≤ height r = omega (arith, rows_fit r part is) in
    omega (arith, mul-le (width part) (height part) (width r) (height r) narrow low, mul_comm (width r) (height r))

nothing : (low high : ℤ) → low ≤ℤ high → int_le high low ≡ true → distance low high ≡ 0
nothing low high ordered le = let far = distance_is low high ordered in grind (arith, ints, far)

-- a part without a point has no area
pub no_area : (part : Rect) → IsOrdered part → is_empty part ≡ true → area_of part ≡ 0
no_area part ordered none =
    ⊎_elim
    (λ (h : int_le part.max.x part.min.x ≡ true). omega (arith, ap (λ n. n * height part) (nothing part.min.x part.max.x ordered.across h)))
    (λ (h : int_le part.max.y part.min.y ≡ true). omega (arith, ap (λ n. width part * n) (nothing part.min.y part.max.y ordered.down h)))
    (or_cases _ _ none)

-- and touches no cell
pub untouched : (r part : Rect) → IsOrdered part → is_empty part ≡ true → (column row : ℕ) → touched r part column row ≡ false
untouched r part ordered none column row =
    let first = distance r.min.x part.min.x in
    let top = distance r.min.y part.min.y in
    let in_row = touches top (height part) row in
    ⊎_elim
    (λ (h : int_le part.max.x part.min.x ≡ true).
    ap (λ n. touches first n column && in_row) (nothing part.min.x part.max.x ordered.across h))
    (λ (h : int_le part.max.y part.min.y ≡ true).
    ap (λ n. touches first (width part) column && touches top n row) (nothing part.min.y part.max.y ordered.down h)
    ∙ and-false (touches first (width part) column))
    (or_cases _ _ none)

-- a row of points
pub strip_ordered : (at : Point) (n : ℕ) → IsOrdered (strip at n)
strip_ordered at n = record { across = omega (arith, ints); down = omega (arith, ints) }

pub strip_area : (at : Point) (n : ℕ) → area_of (strip at n) ≡ n
strip_area at n =
    let across = distance_is at.x (at.x +ℤ pos n) (omega (arith, ints)) in
    let down = distance_is at.y (at.y +ℤ pos 1) (omega (arith, ints)) in
    let wide : width (strip at n) ≡ n = omega (arith, ints, across) in
    let tall : height (strip at n) ≡ 1 = omega (arith, ints, down) in
    (λ i. wide i * tall i) ∙ omega arith

pub one_point : (at p : Point) → holds (strip at 1) p ≡ true → p ≡ at
one_point at p h =
    let in_strip = bounds_of (strip at 1) p h in
    same_point p at (omega (arith, ints, in_strip.left, in_strip.right)) (omega (arith, ints, in_strip.top, in_strip.bottom))
