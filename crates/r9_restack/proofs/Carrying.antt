-- Points of a rectangle carried to where another begins, and what is told of its pixels there.
use Rattle.std.proofs.Common.{◌≡◌, ◌∙◌, ℕ, ◌+◌, ◌*◌, ◌<◌, ◌≤◌, ◌+ℤ◌, ◌-ℤ◌, true, sym, ap, subst, arith}
use Rattle.std.proofs.lemmas.Int.{ints}
use Rattle.r9_geom.specs.declared.Point.{Point}
use Rattle.r9_geom.specs.declared.Rect.{Rect}
use Rattle.r9_geom.specs.Geometry.{at_min, carried, height, holds, natural, point_at, width, IsOrdered, IsRectNear}
use Rattle.r9_geom.proofs.GeometryLemmas.{bounds_of, distance_is, holds_from, same_point}
use Rattle.r9_plane.specs.Blocks.{number_in, HasRows}
use Rattle.r9_plane.specs.Pixels.{along}
use Rattle.model_forest.specs.declared.Window.{Window}
use Rattle.model_forest.specs.World.{World, image_at}
use Rattle.model_forest.specs.View.{inward}
use Rattle.r9_shown.specs.Shown.{block, down}
use Rattle.r9_shown.proofs.Keepers.{carried_step}

-- a point carried to a window from where another is
pub inward_from : (world : World) (v : Window) (z from at : Point) → at ≡ inward world v from → carried z from at ≡ inward world v z
inward_from world v z from at is =
    ap (carried z from) is ∙ sym (carried_step z from v.place.min (image_at world v.image).r.min)

-- a point of a row, so many down
pub row_carried : (r : Rect) (at : Point) (row k : ℕ) → along (down at row) k ≡ carried (along (point_at r 0 row) k) r.min at
row_carried r at row k = same_point (along (down at row) k) (carried (along (point_at r 0 row) k) r.min at) (omega (arith, ints)) (omega (arith, ints))

pub row_start : (r : Rect) (at : Point) (row : ℕ) → down at row ≡ carried (point_at r 0 row) r.min at
row_start r at row = same_point (down at row) (carried (point_at r 0 row) r.min at) (omega (arith, ints)) (omega (arith, ints))

-- a point of the rectangle, carried to where it begins elsewhere
pub held_there : (r : Rect) (at z : Point) → holds r z ≡ true → holds (at_min r at) (carried z r.min at) ≡ true
held_there r at z h =
    let b = bounds_of r z h in
    holds_from (at_min r at) (carried z r.min at) (record { left = omega (arith, ints, b.left); right = omega (arith, ints, b.right); top = omega (arith, ints, b.top); bottom = omega (arith, ints, b.bottom) })

width_there : (r : Rect) (at : Point) → width (at_min r at) ≡ width r
width_there r at =
    let same : r.max.x -ℤ r.min.x +ℤ at.x -ℤ at.x ≡ r.max.x -ℤ r.min.x = omega (arith, ints) in
    ap natural same

height_there : (r : Rect) (at : Point) → height (at_min r at) ≡ height r
height_there r at =
    let same : r.max.y -ℤ r.min.y +ℤ at.y -ℤ at.y ≡ r.max.y -ℤ r.min.y = omega (arith, ints) in
    ap natural same

pub number_there : (r : Rect) (at p : Point) (first across : ℕ) → number_in (at_min r at) first across (carried p r.min at) ≡ number_in r first across p
number_there r at p first across =
    let x : p.x -ℤ r.min.x +ℤ at.x -ℤ at.x ≡ p.x -ℤ r.min.x = omega (arith, ints) in
    let y : p.y -ℤ r.min.y +ℤ at.y -ℤ at.y ≡ p.y -ℤ r.min.y = omega (arith, ints) in
    λ j. first + natural (y j) * across + natural (x j)

pub rows_there : (r : Rect) (at : Point) (first across count : ℕ) → HasRows (at_min r at) first across count → HasRows r first across count
rows_there r at first across count rows = record {
  narrow = subst (λ n. n ≤ across) (width_there r at) rows.narrow;
  fits = λ row below.
      subst (λ n. first + row * across + n ≤ count) (width_there r at) (rows.fits row (subst (λ n. row < n) (sym (height_there r at)) below));
}

-- a part of a near block is near
pub near_block : (x : Point) (d m columns few rows : ℕ) → d + m ≤ columns → few ≤ rows → IsRectNear (block x columns rows) → IsRectNear (block (along x d) m few)
near_block x d m columns few rows fits fewer near = record {
  min = record { left = omega (arith, ints, near.min.left); right = omega (arith, ints, near.max.right, fits); top = omega (arith, ints, near.min.top); bottom = omega (arith, ints, near.min.bottom) };
  max = record { left = omega (arith, ints, near.min.left); right = omega (arith, ints, near.max.right, fits); top = omega (arith, ints, near.min.top); bottom = omega (arith, ints, near.max.bottom, fewer) };
}

-- and so are rows of a near rectangle
pub near_rows : (r : Rect) (x : Point) (row rows : ℕ) → IsRectNear r → IsOrdered r → x ≡ point_at r 0 row → row + rows ≤ height r → IsRectNear (block x (width r) rows)
near_rows r x row rows near ordered is fits =
    let wide = distance_is r.min.x r.max.x ordered.across in
    let high = distance_is r.min.y r.max.y ordered.down in
    subst (λ p. IsRectNear (block p (width r) rows)) (sym is)
    (record {
      min = record { left = omega (arith, ints, near.min.left); right = omega (arith, ints, near.min.right); top = omega (arith, ints, near.min.top); bottom = omega (arith, ints, near.max.bottom, high, fits) };
      max = record { left = omega (arith, ints, near.min.left, wide); right = omega (arith, ints, near.max.right, wide); top = omega (arith, ints, near.min.top); bottom = omega (arith, ints, near.max.bottom, high, fits) };
    })
