-- The points of two rectangles.
use Rattle.std.proofs.Common.{◌≡◌, ◌∙◌, ◌*◌, ◌≤◌, false, ap, arith}
use Rattle.std.proofs.lemmas.Bool.{false_from_ne_true, or_parts}
use Rattle.std.proofs.lemmas.Int.{int_max_is, int_min_is, ints}
use Rattle.std.proofs.lemmas.Nat.{mul-le}
use native.Mathlib.Nat.{zero-mul}
use Rattle.r9_geom.specs.declared.Point.{Point}
use Rattle.r9_geom.specs.declared.Rect.{Rect}
use Rattle.r9_geom.specs.Geometry.{area_of, height, holds, is_empty, meet, width, IsOrdered, IsRectNear}
use Rattle.r9_geom.proofs.GeometryLemmas.{bounds_of, distance_is, int_le_false}

-- those of a corner alone are none
abbrev pub corner_of : Rect → Rect
corner_of a = record { min = a.min; max = a.min }

pub corner_none : (a : Rect) (p : Point) → holds (corner_of a) p ≡ false
corner_none a p =
    false_from_ne_true (holds (corner_of a) p)
    (λ h. let b = bounds_of (corner_of a) p h in absurd (omega (arith, ints, b.left, b.right)))

pub corner_area : (a : Rect) → area_of (corner_of a) ≡ 0
corner_area a =
    let across = distance_is a.min.x a.min.x (omega (arith, ints)) in
    let none : width (corner_of a) ≡ 0 = omega (arith, ints, across) in
    ap (λ n. n * height (corner_of a)) none ∙ zero-mul (height (corner_of a))

pub meet_near : (a b : Rect) → IsRectNear a → IsRectNear b → IsRectNear (meet a b)
meet_near a b near also =
    let left = int_max_is a.min.x b.min.x in
    let top = int_max_is a.min.y b.min.y in
    let right = int_min_is a.max.x b.max.x in
    let bottom = int_min_is a.max.y b.max.y in
    record {
      min = record {
        left = omega (arith, ints, left, near.min.left);
        right = omega (arith, ints, left, near.min.right, also.min.right);
        top = omega (arith, ints, top, near.min.top);
        bottom = omega (arith, ints, top, near.min.bottom, also.min.bottom);
      };
      max = record {
        left = omega (arith, ints, right, near.max.left, also.max.left);
        right = omega (arith, ints, right, near.max.right);
        top = omega (arith, ints, bottom, near.max.top, also.max.top);
        bottom = omega (arith, ints, bottom, near.max.bottom);
      };
    }

pub meet_ordered : (a b : Rect) → is_empty (meet a b) ≡ false → IsOrdered (meet a b)
meet_ordered a b some =
    let m = meet a b in
    let parts = or_parts _ _ some in
    let across = int_le_false m.max.x m.min.x parts.0 in
    let down = int_le_false m.max.y m.min.y parts.1 in
    record { across = omega (arith, ints, across); down = omega (arith, ints, down) }

pub meet_fewer : (a b : Rect) → IsOrdered a → is_empty (meet a b) ≡ false → area_of (meet a b) ≤ area_of a
meet_fewer a b ordered some =
    let m = meet a b in
    let is = meet_ordered a b some in
    let left = int_max_is a.min.x b.min.x in
    let top = int_max_is a.min.y b.min.y in
    let right = int_min_is a.max.x b.max.x in
    let bottom = int_min_is a.max.y b.max.y in
    let wide = distance_is m.min.x m.max.x is.across in
    let wide_a = distance_is a.min.x a.max.x ordered.across in
    let high = distance_is m.min.y m.max.y is.down in
    let high_a = distance_is a.min.y a.max.y ordered.down in
    let narrower : width m ≤ width a = omega (arith, ints, left, right, wide, wide_a) in
    let lower : height m ≤ height a = omega (arith, ints, top, bottom, high, high_a) in
    mul-le (width m) (height m) (width a) (height a) narrower lower
