-- The rows of a rectangle, of maps that agree at its points.
use Rattle.std.proofs.Common.{◌≡◌, ◌∙◌, ℕ, ◌+◌, ◌-◌, ◌*◌, ◌/◌, ◌%◌, ◌<◌, ◌&&◌, Bool, true, false, refl, arith}
use Rattle.std.specs.Prelude.{if◌then◌else◌, nat_le, nat_lt}
use Rattle.std.proofs.lemmas.Bool.{and_parts, leb-true, ltb-true}
use Rattle.std.proofs.lemmas.List.FromFn.{fill_by_all, get_or-map-range_with_len, length-map-range_with_len}
use Rattle.std.proofs.lemmas.Nat.{div_below}
use Rattle.r9_geom.specs.declared.Point.{Point}
use Rattle.r9_geom.specs.declared.Rect.{Rect}
use Rattle.r9_geom.specs.Geometry.{height, holds, point_at, width}
use Rattle.r9_geom.proofs.GeometryLemmas.{point_holds}
use Rattle.model_pixel.specs.Rows.{byte_at, row_bytes, row_place, rows_of, skip}

-- the pixels of one row
pub row_place-same : (r : Rect) (depth : ℕ) (f g : Point → ℕ) → ((p : Point) → holds r p ≡ true → f p ≡ g p) → (row : ℕ) → row < height r → (n : ℕ) → row_place r depth f row n ≡ row_place r depth g row n
row_place-same r depth f g same row below n = by_cases (nat_le (skip r depth) n && nat_lt n (skip r depth + width r)) refl
  where
    by_cases : (b : Bool) → (nat_le (skip r depth) n && nat_lt n (skip r depth + width r)) ≡ b → (if b then f (point_at r (n - skip r depth) row) else 0) ≡ (if b then g (point_at r (n - skip r depth) row) else 0)
    by_cases false e = refl
    by_cases true e =
        let parts = and_parts (nat_le (skip r depth) n) (nat_lt n (skip r depth + width r)) e in
        let low = leb-true (skip r depth) n parts.0 in
        let high = ltb-true n (skip r depth + width r) parts.1 in
        same (point_at r (n - skip r depth) row) (point_holds r (n - skip r depth) row (omega arith) below)

pub rows_of-same : (r : Rect) (depth : ℕ) (f g : Point → ℕ) → ((p : Point) → holds r p ≡ true → f p ≡ g p) → rows_of r depth f ≡ rows_of r depth g
unfolding rows_of
rows_of-same r depth f g same =
    let line = row_bytes r depth in
    let byte = λ (pixel : Point → ℕ) (k : ℕ). byte_at depth (row_place r depth pixel (k / line)) (k % line) in
    fill_by_all (byte g) (rows_of r depth f) (line * height r) 0
    (length-map-range_with_len (byte f) 0 (line * height r))
    (λ k below.
    get_or-map-range_with_len (byte f) 0 (line * height r) k k 0 below (omega arith)
    ∙ (λ j. byte_at depth (λ n. row_place-same r depth f g same (k / line) (row_below line (height r) k below) n j) (k % line)))
  where
    row_below : (line rows k : ℕ) → k < line * rows → k / line < rows
    row_below line rows k below = div_below k line rows (positive line rows k below) (turned line rows k below)
      where
        positive : (line rows k : ℕ) → k < line * rows → 0 < line
        positive line rows k below = grind arith

        turned : (line rows k : ℕ) → k < line * rows → k < rows * line
        turned line rows k below = omega (arith, below)
