-- A display is near, and so is each part of it.
use Rattle.std.proofs.Common.{◌≡◌, pos, ◌<ℤ◌, ◌-ℤ◌, arith}
use Rattle.std.specs.Prelude.{◌^◌, IsTrue}
use Rattle.std.proofs.lemmas.Int.{ints}
use Rattle.r9_geom.specs.declared.Point.{Point}
use Rattle.r9_geom.specs.declared.Rect.{Rect}
use Rattle.r9_geom.specs.Geometry.{holds, HasPoints, IsOrdered, IsRectNearBy}
use Rattle.r9_geom.proofs.GeometryLemmas.{bounds_of, corner, holds_from}

pub near : (r : Rect) → r.min.x ≡ pos 0 → r.min.y ≡ pos 0 → IsOrdered r → r.max.x <ℤ pos (2 ^ 32) → r.max.y <ℤ pos (2 ^ 32) → IsRectNearBy (2 ^ 33) r
near r left top ordered width height =
    let across = ordered.across in
    let down = ordered.down in
    record {
      min = record { left = omega (arith, ints); right = omega (arith, ints); top = omega (arith, ints); bottom = omega (arith, ints) };
      max = record { left = omega (arith, ints); right = omega (arith, ints); top = omega (arith, ints); bottom = omega (arith, ints) };
    }

pub ordered_part : (part : Rect) → HasPoints part → IsOrdered part
ordered_part part some = record { across = omega (arith, ints, some.across); down = omega (arith, ints, some.down) }

-- its first point and its last one are near
pub near_part : (whole part : Rect) → IsRectNearBy (2 ^ 33) whole → HasPoints part → ((p : Point) → IsTrue (holds part p) → IsTrue (holds whole p)) → IsRectNearBy (2 ^ 34) part
near_part whole part near some inside =
    let first = bounds_of whole part.min (inside part.min (corner part some.across some.down)) in
    let last : Point = record { x = part.max.x -ℤ pos 1; y = part.max.y -ℤ pos 1 } in
    let end = bounds_of whole last (inside last (holds_from part last (record { left = omega (arith, ints, some.across); right = omega (arith, ints); top = omega (arith, ints, some.down); bottom = omega (arith, ints) }))) in
    record {
      min = record {
        left = omega (arith, ints, first.left, near.min.left);
        right = omega (arith, ints, first.right, near.max.right);
        top = omega (arith, ints, first.top, near.min.top);
        bottom = omega (arith, ints, first.bottom, near.max.bottom);
      };
      max = record {
        left = omega (arith, ints, first.left, near.min.left, some.across);
        right = omega (arith, ints, end.right, near.max.right);
        top = omega (arith, ints, first.top, near.min.top, some.down);
        bottom = omega (arith, ints, end.bottom, near.max.bottom);
      };
    }
