-- A rectangle that is as wide as the rows around it: its pixels are one run.
use Rattle.std.proofs.Common.{◌≡◌, ◌∙◌, ◌+◌, ◌-◌, ◌*◌, ◌/◌, ◌%◌, ◌^◌, ◌<◌, ◌≤◌, ℕ, true, false, arith}
use Rattle.std.proofs.Math.Nat.{div-add-mod, div-lt_iff_lt-mul, mod-lt, mul_comm}
use Rattle.std.proofs.lemmas.Int.{ints}
use Rattle.std.proofs.lemmas.Nat.{mul-add-lt, mul-le}
use Rattle.r9_geom.specs.declared.Point.{Point}
use Rattle.r9_geom.specs.declared.Rect.{Rect}
use Rattle.r9_geom.specs.Geometry.{distance, height, holds, is_empty, point_at, width, IsOrdered}
use Rattle.r9_geom.proofs.GeometryLemmas.{cell_of, distance_is}
use Rattle.r9_plane.specs.Blocks.{number_in, HasPacked, HasRows}
use Rattle.r9_plane.specs.Pixels.{along}
use Rattle.r9_plane.proofs.Marking.{inner_of}
use Rattle.r9_plane.proofs.PlaneLemmas.{row_lies}
use Rattle.r9_plane.proofs.Rectangles.{along_in, row_along}

-- it has columns and rows
pub record HasBoth (r : Rect) : Type 0 where
  pub across : 0 < width r
  pub down : 0 < height r

pub both_of : (r : Rect) → IsOrdered r → is_empty r ≡ false → HasBoth r
both_of r ordered some =
    let inner = inner_of r r some (λ p h. h) in
    let x = distance_is r.min.x r.max.x ordered.across in
    let y = distance_is r.min.y r.max.y ordered.down in
    record { across = omega (arith, ints, x, inner.across); down = omega (arith, ints, y, inner.down) }

-- the run has room
pub record Fits (r : Rect) (first across bits size : ℕ) : Type 0 where
  pub number : first + height r * across < 2 ^ 63
  pub room : (first + height r * across) * bits ≤ 8 * size

pub run_room : (r : Rect) (first across bits size : ℕ) → HasBoth r → across ≡ width r → HasPacked r first across bits size → Fits r first across bits size
run_room r first across bits size some wide rows =
    let last = height r - 1 in
    let early : last < height r = omega (arith, some.down) in
    let all = mul-le (height r) across (last + 1) across (omega arith) (omega arith) in
    let most : first + height r * across ≤ first + last * across + width r = omega (arith, all, wide) in
    let bytes = mul-le (first + height r * across) bits (first + last * across + width r) bits most (omega arith) in
    record { number = omega (arith, most, rows.number last early); room = omega (arith, bytes, rows.fits last early) }

-- the same among raw pixels
pub rows_room : (r : Rect) (first across size : ℕ) → HasBoth r → across ≡ width r → HasRows r first across size → first + height r * across ≤ size
rows_room r first across size some wide rows =
    let last = height r - 1 in
    let all = mul-le (height r) across (last + 1) across (omega arith) (omega arith) in
    omega (arith, all, wide, rows.fits last (omega (arith, some.down)))

-- each point is so many pixels from the first
pub run_place : (r : Rect) (p : Point) (across : ℕ) → across ≡ width r → holds r p ≡ true → distance r.min.y p.y * across + distance r.min.x p.x < height r * across
run_place r p across wide h =
    let cell = cell_of r p h in
    let below = mul-add-lt (distance r.min.y p.y) across (distance r.min.x p.x) (height r) cell.row (omega (arith, cell.column, wide)) in
    omega (arith, below, mul_comm across (height r))

-- and each pixel is a point's
pub record Numbered (r : Rect) (first across i : ℕ) : Type 0 where
  pub point : Point
  pub inside : holds r point ≡ true
  pub number : number_in r first across point ≡ first + i

pub run_point : (r : Rect) (first across i : ℕ) → IsOrdered r → HasBoth r → across ≡ width r → i < height r * across → Numbered r first across i
run_point r first across i ordered both wide below =
    let some : 0 < across = omega (arith, both.across, wide) in
    let row = i / across in
    let column = i % across in
    let early : row < height r = (div-lt_iff_lt-mul {k = across} {x = i} {y = height r} some).1 below in
    let narrow : column < across = mod-lt i some in
    let p = along (point_at r 0 row) column in
    record {
      point = p;
      inside = row_lies r r row ordered early (λ q h. h) p (along_in (point_at r 0 row) (width r) column (omega (arith, narrow, wide)));
      number = row_along r row column first across across wide narrow ∙ omega (arith, div-add-mod i across, mul_comm across row);
    }
