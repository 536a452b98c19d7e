-- Blocks of points, beside each other and below each other.
use Rattle.std.proofs.Common.{◌≡◌, ℕ, ◌+◌, ◌*◌, ◌<◌, ◌≤◌, ◌+ℤ◌, pos, true, false, sym, arith, ⊎_elim}
use Rattle.std.specs.Prelude.{◌||◌}
use Rattle.std.proofs.lemmas.Bool.{false_from_ne_true, or_cases, or_left, or_right}
use Rattle.std.proofs.lemmas.Int.{by_lt_z, ints}
use Rattle.r9_geom.specs.declared.Point.{Point}
use Rattle.r9_geom.specs.declared.Rect.{Rect}
use Rattle.r9_geom.specs.Geometry.{area_of, distance, height, holds, strip, width, IsOrdered}
use Rattle.r9_geom.proofs.GeometryLemmas.{band, bounds_of, distance_is, holds_from, same_point, same_tests}
use Rattle.r9_plane.specs.Pixels.{along}
use Rattle.r9_shown.specs.Shown.{block, down}

-- a block, and more columns to the right of it
pub block_split : (at : Point) (d n rows : ℕ) (p : Point) → holds (block at (d + n) rows) p ≡ (holds (block (along at d) n rows) p || holds (block at d rows) p)
block_split at d n rows p =
    same_tests (holds (block at (d + n) rows) p) (holds (block (along at d) n rows) p || holds (block at d rows) p)
    (λ h.
    let b = bounds_of (block at (d + n) rows) p h in
    by_lt_z p.x (along at d).x
    (λ left. or_right (holds (block (along at d) n rows) p) (holds (block at d rows) p) (holds_from (block at d rows) p (record { left = b.left; right = omega (arith, ints, left); top = b.top; bottom = b.bottom })))
    (λ right. or_left (holds (block (along at d) n rows) p) (holds (block at d rows) p) (holds_from (block (along at d) n rows) p (record { left = omega (arith, ints, right); right = omega (arith, ints, b.right); top = b.top; bottom = b.bottom }))))
    (λ h.
    ⊎_elim
    (λ late. let b = bounds_of (block (along at d) n rows) p late in holds_from (block at (d + n) rows) p (record { left = omega (arith, ints, b.left); right = omega (arith, ints, b.right); top = b.top; bottom = b.bottom }))
    (λ early. let b = bounds_of (block at d rows) p early in holds_from (block at (d + n) rows) p (record { left = b.left; right = omega (arith, ints, b.right); top = b.top; bottom = b.bottom }))
    (or_cases (holds (block (along at d) n rows) p) (holds (block at d rows) p) h))

-- some columns of a block are of the block
pub block_part : (at : Point) (d m n rows : ℕ) (p : Point) → d + m ≤ n → holds (block (along at d) m rows) p ≡ true → holds (block at n rows) p ≡ true
block_part at d m n rows p fits h =
    let b = bounds_of (block (along at d) m rows) p h in
    holds_from (block at n rows) p (record { left = omega (arith, ints, b.left); right = omega (arith, ints, b.right, fits); top = b.top; bottom = b.bottom })

pub block_none : (at : Point) (rows : ℕ) (p : Point) → holds (block at 0 rows) p ≡ false
block_none at rows p = false_from_ne_true _ (λ h. let b = bounds_of (block at 0 rows) p h in absurd (omega (arith, ints, b.left, b.right)))

-- its first row
pub first_row : (at : Point) (n rows : ℕ) (p : Point) → 0 < rows → holds (strip at n) p ≡ true → holds (block at n rows) p ≡ true
first_row at n rows p some h =
    let b = bounds_of (strip at n) p h in
    holds_from (block at n rows) p (record { left = b.left; right = b.right; top = b.top; bottom = omega (arith, ints, b.bottom, some) })

-- a point of it is so many columns and rows from its corner
pub record StandsIn (at : Point) (n rows : ℕ) (p : Point) : Type 0 where
  pub column : ℕ
  pub row : ℕ
  pub across : column < n
  pub within : row < rows
  pub is : p ≡ down (along at column) row

pub stands_in : (at : Point) (n rows : ℕ) (p : Point) → holds (block at n rows) p ≡ true → StandsIn at n rows p
stands_in at n rows p h =
    let b = bounds_of (block at n rows) p h in
    let x = distance_is at.x p.x b.left in
    let y = distance_is at.y p.y b.top in
    record {
      column = distance at.x p.x;
      row = distance at.y p.y;
      across = omega (arith, ints, x, b.right);
      within = omega (arith, ints, y, b.bottom);
      is = same_point p (down (along at (distance at.x p.x)) (distance at.y p.y)) (sym x) (sym y);
    }

pub corner_in : (at : Point) (n rows : ℕ) → 0 < n → 0 < rows → holds (block at n rows) at ≡ true
corner_in at n rows some some_rows =
    holds_from (block at n rows) at (record { left = omega (arith, ints); right = omega (arith, ints, some); top = omega (arith, ints); bottom = omega (arith, ints, some_rows) })

pub block_ordered : (at : Point) (n rows : ℕ) → IsOrdered (block at n rows)
block_ordered at n rows = record { across = omega (arith, ints); down = omega (arith, ints) }

pub block_area : (at : Point) (n rows : ℕ) → area_of (block at n rows) ≡ n * rows
block_area at n rows =
    let wide = distance_is at.x (at.x +ℤ pos n) (omega (arith, ints)) in
    let high = distance_is at.y (at.y +ℤ pos rows) (omega (arith, ints)) in
    let width_is : width (block at n rows) ≡ n = omega (arith, ints, wide) in
    let height_is : height (block at n rows) ≡ rows = omega (arith, ints, high) in
    λ j. width_is j * height_is j

-- more rows of a rectangle, from the point at which the next one begins
pub bands_more : (r : Rect) (at p : Point) (row rows : ℕ) → IsOrdered r → at.x ≡ r.min.x → at.y ≡ r.min.y +ℤ pos row → holds (band r (row + rows)) p ≡ (holds (block at (width r) rows) p || holds (band r row) p)
bands_more r at p row rows ordered left top =
    let right = distance_is r.min.x r.max.x ordered.across in
    same_tests _ _
    (λ h.
    let b = bounds_of (band r (row + rows)) p h in
    by_lt_z p.y at.y
    (λ early. or_right (holds (block at (width r) rows) p) (holds (band r row) p) (holds_from (band r row) p (record { left = b.left; right = b.right; top = b.top; bottom = omega (arith, ints, early, top) })))
    (λ late. or_left (holds (block at (width r) rows) p) (holds (band r row) p) (holds_from (block at (width r) rows) p (record {
      left = omega (arith, ints, b.left, left);
      right = omega (arith, ints, b.right, right, left);
      top = late;
      bottom = omega (arith, ints, b.bottom, top);
    }))))
    (λ h.
    ⊎_elim
    (λ late.
    let b = bounds_of (block at (width r) rows) p late in
    holds_from (band r (row + rows)) p (record {
      left = omega (arith, ints, b.left, left);
      right = omega (arith, ints, b.right, right, left);
      top = omega (arith, ints, b.top, top);
      bottom = omega (arith, ints, b.bottom, top);
    }))
    (λ early. let b = bounds_of (band r row) p early in holds_from (band r (row + rows)) p (record { left = b.left; right = b.right; top = b.top; bottom = omega (arith, ints, b.bottom) }))
    (or_cases (holds (block at (width r) rows) p) (holds (band r row) p) h))

-- rows of a rectangle are of it
pub band_part : (r : Rect) (at p : Point) (row rows : ℕ) → IsOrdered r → at.x ≡ r.min.x → at.y ≡ r.min.y +ℤ pos row → row + rows ≤ height r → holds (block at (width r) rows) p ≡ true → holds r p ≡ true
band_part r at p row rows ordered left top fits h =
    let b = bounds_of (block at (width r) rows) p h in
    let right = distance_is r.min.x r.max.x ordered.across in
    let bottom = distance_is r.min.y r.max.y ordered.down in
    holds_from r p (record {
      left = omega (arith, ints, b.left, left);
      right = omega (arith, ints, b.right, right, left);
      top = omega (arith, ints, b.top, top);
      bottom = omega (arith, ints, b.bottom, top, bottom, fits);
    })

-- a row, and more points to the right of it
pub strip_split : (at : Point) (d n : ℕ) (p : Point) → holds (strip at (d + n)) p ≡ (holds (strip (along at d) n) p || holds (strip at d) p)
strip_split at d n p =
    same_tests (holds (strip at (d + n)) p) (holds (strip (along at d) n) p || holds (strip at d) p)
    (λ h.
    let b = bounds_of (strip at (d + n)) p h in
    by_lt_z p.x (along at d).x
    (λ left. or_right (holds (strip (along at d) n) p) (holds (strip at d) p) (holds_from (strip at d) p (record { left = b.left; right = omega (arith, ints, left); top = b.top; bottom = b.bottom })))
    (λ right. or_left (holds (strip (along at d) n) p) (holds (strip at d) p) (holds_from (strip (along at d) n) p (record { left = omega (arith, ints, right); right = omega (arith, ints, b.right); top = b.top; bottom = b.bottom }))))
    (λ h.
    ⊎_elim
    (λ late. let b = bounds_of (strip (along at d) n) p late in holds_from (strip at (d + n)) p (record { left = omega (arith, ints, b.left); right = omega (arith, ints, b.right); top = b.top; bottom = b.bottom }))
    (λ early. let b = bounds_of (strip at d) p early in holds_from (strip at (d + n)) p (record { left = b.left; right = omega (arith, ints, b.right); top = b.top; bottom = b.bottom }))
    (or_cases (holds (strip (along at d) n) p) (holds (strip at d) p) h))

-- a part of a row is of the row
pub strip_part : (at : Point) (d m n : ℕ) (p : Point) → d + m ≤ n → holds (strip (along at d) m) p ≡ true → holds (strip at n) p ≡ true
strip_part at d m n p fits h =
    let b = bounds_of (strip (along at d) m) p h in
    holds_from (strip at n) p (record { left = omega (arith, ints, b.left); right = omega (arith, ints, b.right, fits); top = b.top; bottom = b.bottom })
