-- Points carried along with a corner, and parts of strips.
use Rattle.std.proofs.Common.{◌≡◌, ℕ, ◌+◌, ◌*◌, ◌^◌, ◌<◌, ◌≤◌, true, refl, arith}
use Rattle.std.proofs.lemmas.Int.{ints}
use Rattle.r9_geom.specs.declared.Point.{Point}
use Rattle.r9_geom.specs.declared.Rect.{Rect}
use Rattle.r9_geom.specs.Geometry.{carried, distance, height, holds, point_at, strip, width, IsNear, IsNearBy, IsOrdered, IsRectNear, IsRectNearBy}
use Rattle.r9_geom.proofs.GeometryLemmas.{bounds_of, distance_is, holds_from, same_point}
use Rattle.r9_plane.specs.Pixels.{along, number_of}
use Rattle.model_forest.specs.Steps.{carried_rect}

-- there and back
pub carried_back : (p corner start : Point) → carried (carried p start corner) corner start ≡ p
carried_back p corner start =
    same_point (carried (carried p start corner) corner start) p (omega (arith, ints)) (omega (arith, ints))

-- a strip that was carried holds what was carried with it
pub strip-carried : (at corner start p : Point) (n : ℕ) → holds (strip (carried at corner start) n) p ≡ true → holds (strip at n) (carried p start corner) ≡ true
strip-carried at corner start p n h =
    let b = bounds_of (strip (carried at corner start) n) p h in
    holds_from (strip at n) (carried p start corner) (record {
      left = omega (arith, ints, b.left);
      right = omega (arith, ints, b.right);
      top = omega (arith, ints, b.top);
      bottom = omega (arith, ints, b.bottom);
    })

pub near_carried : (at corner start : Point) → IsNear at → IsNearBy (2 ^ 34) corner → IsNearBy (2 ^ 34) start → IsNearBy (2 ^ 41) (carried at corner start)
near_carried at corner start a b c = record {
  left = omega (arith, ints, a.left, b.right, c.left);
  right = omega (arith, ints, a.right, b.left, c.right);
  top = omega (arith, ints, a.top, b.bottom, c.top);
  bottom = omega (arith, ints, a.bottom, b.top, c.bottom);
}

-- a part of a strip lies in it
pub strip-along : (at p : Point) (n k m : ℕ) → n + k ≤ m → holds (strip (along at n) k) p ≡ true → holds (strip at m) p ≡ true
strip-along at p n k m fits h =
    let b = bounds_of (strip (along at n) k) p h in
    holds_from (strip at m) p (record {
      left = omega (arith, ints, b.left);
      right = omega (arith, ints, b.right, fits);
      top = omega (arith, ints, b.top);
      bottom = omega (arith, ints, b.bottom);
    })

-- and so a rectangle
pub rect_carried : (r : Rect) (corner start p : Point) → holds (carried_rect r corner start) p ≡ true → holds r (carried p start corner) ≡ true
rect_carried r corner start p h =
    let b = bounds_of (carried_rect r corner start) p h in
    holds_from r (carried p start corner) (record {
      left = omega (arith, ints, b.left);
      right = omega (arith, ints, b.right);
      top = omega (arith, ints, b.top);
      bottom = omega (arith, ints, b.bottom);
    })

pub rect_holds : (r : Rect) (corner start p : Point) → holds r p ≡ true → holds (carried_rect r corner start) (carried p corner start) ≡ true
rect_holds r corner start p h =
    let b = bounds_of r p h in
    holds_from (carried_rect r corner start) (carried p corner start) (record {
      left = omega (arith, ints, b.left);
      right = omega (arith, ints, b.right);
      top = omega (arith, ints, b.top);
      bottom = omega (arith, ints, b.bottom);
    })

pub rect_near : (r : Rect) (corner start : Point) → IsRectNearBy (2 ^ 34) r → IsNearBy (2 ^ 34) corner → IsNearBy (2 ^ 34) start → IsRectNear (carried_rect r corner start)
rect_near r corner start a b c = record {
  min = record {
    left = omega (arith, ints, a.min.left, b.right, c.left);
    right = omega (arith, ints, a.min.right, b.left, c.right);
    top = omega (arith, ints, a.min.top, b.bottom, c.top);
    bottom = omega (arith, ints, a.min.bottom, b.top, c.bottom);
  };
  max = record {
    left = omega (arith, ints, a.max.left, b.right, c.left);
    right = omega (arith, ints, a.max.right, b.left, c.right);
    top = omega (arith, ints, a.max.top, b.bottom, c.top);
    bottom = omega (arith, ints, a.max.bottom, b.top, c.bottom);
  };
}

pub rect_ordered : (r : Rect) (corner start : Point) → IsOrdered r → IsOrdered (carried_rect r corner start)
rect_ordered r corner start ordered = record { across = omega (arith, ints, ordered.across); down = omega (arith, ints, ordered.down) }

-- it has as many columns and rows
pub rect_width : (r : Rect) (corner start : Point) → IsOrdered r → width (carried_rect r corner start) ≡ width r
rect_width r corner start ordered =
    let s = carried_rect r corner start in
    let wide = distance_is s.min.x s.max.x (rect_ordered r corner start ordered).across in
    let wide_r = distance_is r.min.x r.max.x ordered.across in
    omega (arith, ints, wide, wide_r)

pub rect_height : (r : Rect) (corner start : Point) → IsOrdered r → height (carried_rect r corner start) ≡ height r
rect_height r corner start ordered =
    let s = carried_rect r corner start in
    let high = distance_is s.min.y s.max.y (rect_ordered r corner start ordered).down in
    let high_r = distance_is r.min.y r.max.y ordered.down in
    omega (arith, ints, high, high_r)

-- and its points stand in the same order
pub number_there : (r : Rect) (corner start : Point) (column row : ℕ) → IsOrdered r → number_of (carried_rect r corner start) (carried (point_at r column row) corner start) ≡ row * width r + column
number_there r corner start column row ordered =
    let s = carried_rect r corner start in
    let p = carried (point_at r column row) corner start in
    let across = distance_is s.min.x p.x (omega (arith, ints)) in
    let down = distance_is s.min.y p.y (omega (arith, ints)) in
    let column_is : distance s.min.x p.x ≡ column = omega (arith, ints, across) in
    let row_is : distance s.min.y p.y ≡ row = omega (arith, ints, down) in
    λ j. row_is j * rect_width r corner start ordered j + column_is j

pub number_here : (r : Rect) (column row : ℕ) → number_of r (point_at r column row) ≡ row * width r + column
number_here r column row =
    let p = point_at r column row in
    let across = distance_is r.min.x p.x (omega (arith, ints)) in
    let down = distance_is r.min.y p.y (omega (arith, ints)) in
    let column_is : distance r.min.x p.x ≡ column = omega (arith, ints, across) in
    let row_is : distance r.min.y p.y ≡ row = omega (arith, ints, down) in
    λ j. row_is j * width r + column_is j
