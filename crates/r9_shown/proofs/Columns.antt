-- Rows of a rectangle, and columns of these rows.
use Rattle.std.proofs.Common.{◌≡◌, ◌∙◌, ℕ, ◌+◌, ◌*◌, ◌<◌, ◌≤◌, ◌+ℤ◌, pos, suc, zero, true, false, sym, ap, arith, ⊎_elim}
use Rattle.std.specs.Prelude.{◌||◌, int_le}
use Rattle.std.proofs.lemmas.Bool.{both_ways, false_from_ne_true, or_cases, or_left, or_parts, or_right}
use Rattle.std.proofs.lemmas.Int.{by_lt_z, ints}
use Rattle.std.proofs.lemmas.Nat.{mul-le}
use Rattle.r9_geom.specs.declared.Point.{Point}
use Rattle.r9_geom.specs.declared.Rect.{Rect}
use Rattle.r9_geom.specs.Geometry.{area_of, carried, distance, height, holds, is_empty, point_at, width, HasPoints, IsOrdered}
use Rattle.r9_geom.proofs.GeometryLemmas.{band, bounds_of, distance_is, empty_holds, holds_from, int_le_false, same_tests}
use Rattle.r9_plane.specs.Blocks.{number_in, HasRows}
use Rattle.r9_plane.specs.Pixels.{number_of}
use Rattle.r9_shown.specs.Shown.{block, rows_of}
use Rattle.r9_shown.proofs.Carried.{carried-self}
use Rattle.r9_shown.proofs.Keepers.{block_carried, carried_through}

-- so many columns of rows of a rectangle
abbrev pub left_of : Rect → (row rows columns : ℕ) → Rect
left_of r row rows columns = record { min = record { x = r.min.x; y = r.min.y +ℤ pos row }; max = record { x = r.min.x +ℤ pos columns; y = r.min.y +ℤ pos (row + rows) } }

pub left_none : (r : Rect) (row rows : ℕ) (p : Point) → holds (left_of r row rows 0) p ≡ false
left_none r row rows p = false_from_ne_true _ (λ h. let b = bounds_of (left_of r row rows 0) p h in absurd (omega (arith, ints, b.left, b.right)))

pub left_more : (r : Rect) (row rows d n : ℕ) (p : Point) → holds (left_of r row rows (d + n)) p ≡ (holds (block (point_at r d row) n rows) p || holds (left_of r row rows d) p)
left_more r row rows d n p =
    same_tests _ _
    (λ h.
    let b = bounds_of (left_of r row rows (d + n)) p h in
    by_lt_z p.x (r.min.x +ℤ pos d)
    (λ left. or_right (holds (block (point_at r d row) n rows) p) (holds (left_of r row rows d) p) (holds_from (left_of r row rows d) p (record { left = b.left; right = left; top = b.top; bottom = b.bottom })))
    (λ right. or_left (holds (block (point_at r d row) n rows) p) (holds (left_of r row rows d) p) (holds_from (block (point_at r d row) n rows) p (record { left = right; right = omega (arith, ints, b.right); top = b.top; bottom = omega (arith, ints, b.bottom) }))))
    (λ h.
    ⊎_elim
    (λ late. let b = bounds_of (block (point_at r d row) n rows) p late in holds_from (left_of r row rows (d + n)) p (record { left = omega (arith, ints, b.left); right = omega (arith, ints, b.right); top = b.top; bottom = omega (arith, ints, b.bottom) }))
    (λ early. let b = bounds_of (left_of r row rows d) p early in holds_from (left_of r row rows (d + n)) p (record { left = b.left; right = omega (arith, ints, b.right); top = b.top; bottom = b.bottom }))
    (or_cases (holds (block (point_at r d row) n rows) p) (holds (left_of r row rows d) p) h))

pub left_all : (r : Rect) (row rows d : ℕ) (p : Point) → IsOrdered r → d ≡ width r → holds (left_of r row rows d) p ≡ holds (rows_of r row rows) p
left_all r row rows d p ordered all =
    ap (λ n. holds (left_of r row rows n) p) all
    ∙ ap (λ x. holds (record { min = record { x = r.min.x; y = r.min.y +ℤ pos row }; max = record { x = x; y = r.min.y +ℤ pos (row + rows) } }) p) (distance_is r.min.x r.max.x ordered.across)

pub left_inside : (r : Rect) (row rows d : ℕ) (p : Point) → IsOrdered r → row + rows ≤ height r → d ≤ width r → holds (left_of r row rows d) p ≡ true → holds r p ≡ true
left_inside r row rows d p ordered low few h =
    let b = bounds_of (left_of r row rows d) p h in
    let right = distance_is r.min.x r.max.x ordered.across in
    let bottom = distance_is r.min.y r.max.y ordered.down in
    holds_from r p (record { left = b.left; right = omega (arith, ints, b.right, right, few); top = omega (arith, ints, b.top); bottom = omega (arith, ints, b.bottom, bottom, low) })

-- a block of them
pub piece_inside : (r : Rect) (row rows d n : ℕ) (p : Point) → IsOrdered r → row + rows ≤ height r → d + n ≤ width r → holds (block (point_at r d row) n rows) p ≡ true → holds r p ≡ true
piece_inside r row rows d n p ordered low few h =
    let b = bounds_of (block (point_at r d row) n rows) p h in
    let right = distance_is r.min.x r.max.x ordered.across in
    let bottom = distance_is r.min.y r.max.y ordered.down in
    holds_from r p (record { left = omega (arith, ints, b.left); right = omega (arith, ints, b.right, right, few); top = omega (arith, ints, b.top); bottom = omega (arith, ints, b.bottom, bottom, low) })

pub rows_inside : (r : Rect) (row rows : ℕ) (p : Point) → IsOrdered r → row + rows ≤ height r → holds (rows_of r row rows) p ≡ true → holds r p ≡ true
rows_inside r row rows p ordered low h =
    let b = bounds_of (rows_of r row rows) p h in
    let bottom = distance_is r.min.y r.max.y ordered.down in
    holds_from r p (record { left = b.left; right = b.right; top = omega (arith, ints, b.top); bottom = omega (arith, ints, b.bottom, bottom, low) })

pub band_inside : (r : Rect) (n : ℕ) (p : Point) → IsOrdered r → n ≤ height r → holds (band r n) p ≡ true → holds r p ≡ true
band_inside r n p ordered low h =
    let b = bounds_of (band r n) p h in
    let bottom = distance_is r.min.y r.max.y ordered.down in
    holds_from r p (record { left = b.left; right = b.right; top = b.top; bottom = omega (arith, ints, b.bottom, bottom, low) })

-- more rows
pub rows_more : (r : Rect) (row rows : ℕ) (p : Point) → holds (band r (row + rows)) p ≡ (holds (rows_of r row rows) p || holds (band r row) p)
rows_more r row rows p =
    same_tests _ _
    (λ h.
    let b = bounds_of (band r (row + rows)) p h in
    by_lt_z p.y (r.min.y +ℤ pos row)
    (λ early. or_right (holds (rows_of r row rows) p) (holds (band r row) p) (holds_from (band r row) p (record { left = b.left; right = b.right; top = b.top; bottom = early })))
    (λ late. or_left (holds (rows_of r row rows) p) (holds (band r row) p) (holds_from (rows_of r row rows) p (record { left = b.left; right = b.right; top = late; bottom = b.bottom }))))
    (λ h.
    ⊎_elim
    (λ late. let b = bounds_of (rows_of r row rows) p late in holds_from (band r (row + rows)) p (record { left = b.left; right = b.right; top = omega (arith, ints, b.top); bottom = b.bottom }))
    (λ early. let b = bounds_of (band r row) p early in holds_from (band r (row + rows)) p (record { left = b.left; right = b.right; top = b.top; bottom = omega (arith, ints, b.bottom) }))
    (or_cases (holds (rows_of r row rows) p) (holds (band r row) p) h))

-- the size of a block
pub block_width : (at : Point) (n rows : ℕ) → width (block at n rows) ≡ n
block_width at n rows = let d = distance_is at.x (at.x +ℤ pos n) (omega (arith, ints)) in omega (arith, ints, d)

pub block_height : (at : Point) (n rows : ℕ) → height (block at n rows) ≡ rows
block_height at n rows = let d = distance_is at.y (at.y +ℤ pos rows) (omega (arith, ints)) in omega (arith, ints, d)

-- a rectangle with no point takes no step, and another one has a point
pub empty_area : (r : Rect) → IsOrdered r → is_empty r ≡ true → area_of r ≡ 0
empty_area r ordered none =
    by_size (width r) (height r)
    (λ w h.
    let right = distance_is r.min.x r.max.x ordered.across in
    let bottom = distance_is r.min.y r.max.y ordered.down in
    let held : holds r r.min ≡ true = holds_from r r.min (record { left = omega (arith, ints); right = omega (arith, ints, right, w); top = omega (arith, ints); bottom = omega (arith, ints, bottom, h) }) in
    absurd (both_ways (holds r r.min) (empty_holds r r.min none) held))
  where
    by_size : (w h : ℕ) → (0 < w → 0 < h → w * h ≡ 0) → w * h ≡ 0
    by_size zero h rest = omega arith
    by_size (suc w) zero rest = grind arith
    by_size (suc w) (suc h) rest = rest (omega arith) (omega arith)

pub some_points : (r : Rect) → is_empty r ≡ false → HasPoints r
some_points r some =
    let parts = or_parts (int_le r.max.x r.min.x) (int_le r.max.y r.min.y) some in
    record { across = int_le_false r.max.x r.min.x parts.0; down = int_le_false r.max.y r.min.y parts.1 }

-- the number of a pixel of a block among rows of others is that of the point for which it stands
pub piece_number : (r : Rect) (row rows d n first start across : ℕ) (at p : Point) → start ≡ first + row * across + d → holds (block (point_at r d row) n rows) p ≡ true → number_in (block at n rows) start across (carried p (point_at r d row) at) ≡ number_in r first across p
piece_number r row rows d n first start across at p start_is h =
    let b = bounds_of (block (point_at r d row) n rows) p h in
    let z : Point = carried p (point_at r d row) at in
    let px = distance_is r.min.x p.x (omega (arith, ints, b.left)) in
    let py = distance_is r.min.y p.y (omega (arith, ints, b.top)) in
    let zx = distance_is at.x z.x (omega (arith, ints, b.left)) in
    let zy = distance_is at.y z.y (omega (arith, ints, b.top)) in
    let column : distance r.min.x p.x ≡ d + distance at.x z.x = omega (arith, ints, px, zx) in
    let line : distance r.min.y p.y ≡ row + distance at.y z.y = omega (arith, ints, py, zy) in
    let lines : distance r.min.y p.y * across ≡ (row + distance at.y z.y) * across = ap (λ m. m * across) line in
    let parts : (row + distance at.y z.y) * across ≡ row * across + distance at.y z.y * across = grind arith in
    omega (arith, start_is, column, lines, parts)

-- the other way round
pub back_number : (r : Rect) (row rows d n first start across : ℕ) (at x : Point) → start ≡ first + row * across + d → holds (block at n rows) x ≡ true → number_in (block at n rows) start across x ≡ number_in r first across (carried x at (point_at r d row))
back_number r row rows d n first start across at x start_is h =
    let q : Point = point_at r d row in
    ap (number_in (block at n rows) start across) (sym (carried_through x at q at ∙ carried-self x at))
    ∙ piece_number r row rows d n first start across at (carried x at q) start_is (block_carried at q x n rows h)

-- rows of a block are among those of the rectangle
pub piece_rows : (r : Rect) (row rows d n first start across count : ℕ) (at : Point) → start ≡ first + row * across + d → row + rows ≤ height r → d + n ≤ width r → HasRows r first across count → HasRows (block at n rows) start across count
piece_rows r row rows d n first start across count at start_is low few among =
    let wide = block_width at n rows in
    record {
      narrow = omega (arith, wide, few, among.narrow);
      fits = λ k below.
          let lower : row + k < height r = omega (arith, below, block_height at n rows, low) in
          let parts : (row + k) * across ≡ row * across + k * across = grind arith in
          omega (arith, start_is, wide, few, parts, among.fits (row + k) lower);
    }

-- all rows of a rectangle in a list of its pixels
pub rows_among : (r : Rect) (count : ℕ) → area_of r ≤ count → HasRows r 0 (width r) count
rows_among r count room = record {
  narrow = omega arith;
  fits = λ row below.
      let all = mul-le (row + 1) (width r) (height r) (width r) (omega (arith, below)) (omega arith) in
      let more : (row + 1) * width r ≡ row * width r + width r = grind arith in
      let turned : height r * width r ≡ width r * height r = grind arith in
      omega (arith, all, more, turned, room);
}

pub all_number : (r : Rect) (p : Point) → number_in r 0 (width r) p ≡ number_of r p
all_number r p = omega arith
