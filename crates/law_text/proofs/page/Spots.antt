-- Points that are no less than the origin, and boxes of them.
use Rattle.std.proofs.Common.{◌≡◌, ◌<◌, ◌≤◌, ◌+◌, ◌*◌, ℕ, pos, true, sym, arith}
use Rattle.std.proofs.lemmas.Int.{ints}
use Rattle.r9_geom.specs.declared.Point.{Point}
use Rattle.r9_geom.specs.declared.Rect.{Rect}
use Rattle.r9_geom.specs.Geometry.{carried, distance, holds, natural, reduced}
use Rattle.r9_geom.proofs.GeometryLemmas.{bounds_of, distance_is, holds_from, natural_is, same_point, same_rect}
use Rattle.model_draw.specs.draw.Orders.{inside_border}
use Rattle.model_clients.specs.page.Text.{Shape, box, dot, page_rect}

abbrev pub spot : (x y : ℕ) → Point
spot x y = record { x = pos x; y = pos y }

-- the bounds of a spot in a box
pub record IsWithin (x0 y0 x1 y1 x y : ℕ) : Type 0 where
  pub left : x0 ≤ x
  pub right : x < x1
  pub top : y0 ≤ y
  pub bottom : y < y1

pub box_holds : (x0 y0 x1 y1 x y : ℕ) → IsWithin x0 y0 x1 y1 x y → holds (box x0 y0 x1 y1) (spot x y) ≡ true
box_holds x0 y0 x1 y1 x y w =
    let left = w.left in
    let right = w.right in
    let top = w.top in
    let bottom = w.bottom in
    holds_from (box x0 y0 x1 y1) (spot x y) (record { left = omega (arith, ints); right = omega (arith, ints); top = omega (arith, ints); bottom = omega (arith, ints) })

pub held_in_box : (x0 y0 x1 y1 x y : ℕ) → holds (box x0 y0 x1 y1) (spot x y) ≡ true → IsWithin x0 y0 x1 y1 x y
held_in_box x0 y0 x1 y1 x y held =
    let b = bounds_of (box x0 y0 x1 y1) (spot x y) held in
    let left = b.left in
    let right = b.right in
    let top = b.top in
    let bottom = b.bottom in
    record { left = omega (arith, ints); right = omega (arith, ints); top = omega (arith, ints); bottom = omega (arith, ints) }

-- a point of a box is a spot
pub record IsSpot (p : Point) : Type 0 where
  pub x : ℕ
  pub y : ℕ
  pub is : p ≡ spot x y

pub spot_in : (x0 y0 x1 y1 : ℕ) (p : Point) → holds (box x0 y0 x1 y1) p ≡ true → IsSpot p
spot_in x0 y0 x1 y1 p held =
    let b = bounds_of (box x0 y0 x1 y1) p held in
    let left = b.left in
    let top = b.top in
    record {
      x = natural p.x;
      y = natural p.y;
      is = same_point p (spot (natural p.x) (natural p.y)) (sym (natural_is p.x (omega (arith, ints)))) (sym (natural_is p.y (omega (arith, ints))));
    }

pub distance_to : (from more : ℕ) → distance (pos from) (pos (from + more)) ≡ more
distance_to from more =
    let is = distance_is (pos from) (pos (from + more)) (omega (arith, ints)) in
    omega (arith, ints, is)

-- what stands so far from one spot stands so far from the other
pub carried_spot : (fx fy tx ty dx dy : ℕ) → carried (spot (fx + dx) (fy + dy)) (spot fx fy) (spot tx ty) ≡ spot (tx + dx) (ty + dy)
carried_spot fx fy tx ty dx dy = same_point _ (spot (tx + dx) (ty + dy)) (omega (arith, ints)) (omega (arith, ints))

pub reduced_dot : (x y : ℕ) → holds dot (reduced dot (spot x y)) ≡ true
reduced_dot x y = holds_from dot (reduced dot (spot x y)) (record { left = omega (arith, ints); right = omega (arith, ints); top = omega (arith, ints); bottom = omega (arith, ints) })

-- inside the border
abbrev pub inner : Shape → Rect
inner shape = box 4 4 (4 + shape.columns * shape.width) (4 + shape.rows * shape.height)

pub inner_is : (shape : Shape) → inside_border (page_rect shape) ≡ inner shape
inner_is shape = same_rect (inside_border (page_rect shape)) (inner shape) (omega (arith, ints)) (omega (arith, ints)) (omega (arith, ints)) (omega (arith, ints))
