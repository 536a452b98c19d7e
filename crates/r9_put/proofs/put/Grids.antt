-- The pixels of a rectangle as one list, row by row.
use Rattle.std.proofs.Common.{◌≡◌, ◌∙◌, ℕ, ◌+◌, ◌-◌, ◌*◌, ◌<◌, ◌+ℤ◌, Bool, List, pos, true, false, length, get_or, take, drop, refl, sym, ap, arith}
use Rattle.std.specs.Prelude.{◌||◌, if◌then◌else◌}
use Rattle.std.proofs.lemmas.Int.{ints}
use Rattle.std.proofs.lemmas.Nat.{mul-le}
use Rattle.r9_geom.specs.declared.Point.{Point}
use Rattle.r9_geom.specs.declared.Rect.{Rect}
use Rattle.r9_geom.specs.Geometry.{distance, height, holds, point_at, strip, width, IsNear, IsOrdered, IsRectNear}
use Rattle.r9_geom.proofs.GeometryLemmas.{band, band_more, bounds_of, distance_below, distance_is, row_inside, same_point}
use Rattle.r9_plane.specs.Pixels.{along}
use Rattle.r9_locate.proofs.locate.Parts.{length-part, row_within}

-- one row of the list, as a part of it
abbrev pub grid_row : List ℕ → ℕ → ℕ → List ℕ
grid_row pixels row w = take (row * w + w - row * w) (drop (row * w) pixels)

pub length-grid_row : (pixels : List ℕ) (row rows w : ℕ) → row < rows → length pixels ≡ rows * w → length (grid_row pixels row w) ≡ w
length-grid_row pixels row rows w below is =
    let fits = row_within row rows w (length pixels) below is in
    length-part pixels (row * w) (row * w + w - row * w) (omega (arith, fits)) ∙ omega arith

-- a point begins a row of a rectangle
pub record BeginsRow (r : Rect) (at : Point) (row : ℕ) : Type 0 where
  pub left : at.x ≡ r.min.x
  pub top : at.y ≡ r.min.y +ℤ pos row
  pub below : row < height r

pub begins_row : (r : Rect) (at : Point) (row : ℕ) → at ≡ point_at r 0 row → row < height r → BeginsRow r at row
begins_row r at row is below = record {
  left = let x = ap (λ (p : Point). p.x) is in omega (arith, ints, x);
  top = ap (λ (p : Point). p.y) is;
  below = below;
}

pub row_lies : (r : Rect) (at q : Point) (row n : ℕ) → n ≡ width r → IsOrdered r → BeginsRow r at row → holds (strip at n) q ≡ true → holds r q ≡ true
row_lies r at q row n whole ordered is h =
    row_inside r at q row ordered is.left is.top is.below (ap (λ m. holds (strip at m) q) (sym whole) ∙ h)

-- the same from the point at which the row begins
pub row_of : (r : Rect) (at q : Point) (row n : ℕ) → at ≡ point_at r 0 row → row < height r → n ≡ width r → IsOrdered r → holds (strip at n) q ≡ true → holds r q ≡ true
row_of r at q row n is below whole ordered h = row_lies r at q row n whole ordered (begins_row r at row is below) h

-- a point of a row of a rectangle
pub along-point_at : (r : Rect) (column row : ℕ) → along (point_at r 0 row) column ≡ point_at r column row
along-point_at r column row = same_point (along (point_at r 0 row) column) (point_at r column row) (omega (arith, ints)) refl

pub near_row : (r : Rect) (row : ℕ) → IsRectNear r → row < height r → IsNear (point_at r 0 row)
near_row r row near below =
    let bottom = distance_below r.min.y r.max.y row below in
    record {
      left = omega (arith, ints, near.min.left);
      right = omega (arith, ints, near.min.right);
      top = omega (arith, ints, near.min.top);
      bottom = omega (arith, ints, bottom, near.max.bottom);
    }

-- the places of the rows before come first
pub place_before : (row other column w : ℕ) → other < row → column < w → other * w + column < row * w
place_before row other column w early inside =
    let more = mul-le (other + 1) w row w (omega arith) (omega arith) in
    omega (arith, more)

-- how far a point of a row is from its start
pub strip_column : (at q : Point) (n : ℕ) → holds (strip at n) q ≡ true → distance at.x q.x < n
strip_column at q n h =
    let b = bounds_of (strip at n) q h in
    let d = distance_is at.x q.x b.left in
    omega (arith, ints, d, b.right)

-- one more row was written
pub band_shown : (r : Rect) (at q : Point) (n w : ℕ) (raws : List ℕ) (shown : Point → ℕ) (old new : ℕ) → IsOrdered r → at ≡ point_at r 0 n → w ≡ width r → new ≡ (if holds (strip at w) q then get_or raws (distance at.x q.x) 0 else old) → ((k : ℕ) → k < w → get_or raws k 0 ≡ shown (along at k)) → (holds (band r n) q ≡ true → old ≡ shown q) → holds (band r (n + 1)) q ≡ true → new ≡ shown q
band_shown r at q n w raws shown old new ordered is wide put read before inside =
    let left : at.x ≡ r.min.x = let x = ap (λ (p : Point). p.x) is in omega (arith, ints, x) in
    let top : at.y ≡ r.min.y +ℤ pos n = ap (λ (p : Point). p.y) is in
    let more = ap (λ m. holds (strip at m) q || holds (band r n) q) wide ∙ sym (band_more r at q n ordered left top) ∙ inside in
    put ∙ by_cases (holds (strip at w) q) refl more
  where
    by_cases : (b : Bool) → holds (strip at w) q ≡ b → (b || holds (band r n) q) ≡ true → (if b then get_or raws (distance at.x q.x) 0 else old) ≡ shown q
    by_cases true e some =
        let b = bounds_of (strip at w) q e in
        let column = distance_is at.x q.x b.left in
        read (distance at.x q.x) (strip_column at q w e)
        ∙ ap shown (same_point (along at (distance at.x q.x)) q column (omega (arith, ints, b.top, b.bottom)))
    by_cases false e some = before some
