-- Pixels of a rectangle among rows of others.
use Rattle.std.specs.Prelude.{◌+◌, ◌*◌, ◌^◌, ◌<◌, ◌≤◌, ℕ}
use Rattle.r9_geom.specs.declared.Point.{Point}
use Rattle.r9_geom.specs.declared.Rect.{Rect}
use Rattle.r9_geom.specs.Geometry.{distance, height, width}

-- the number of a point's pixel, where that of min is the first, and a row has so many
abbrev pub number_in : Rect → ℕ → ℕ → Point → ℕ
number_in r first across p = first + distance r.min.y p.y * across + distance r.min.x p.x

-- the rows of the rectangle are among these rows, which are so many pixels
pub record HasRows (r : Rect) (first across count : ℕ) : Type 0 where
  pub narrow : width r ≤ across
  pub fits : (row : ℕ) → row < height r → first + row * across + width r ≤ count

-- the rows of the rectangle are among these rows of packed pixels, which are so many bytes
pub record HasPacked (r : Rect) (first across depth count : ℕ) : Type 0 where
  pub narrow : width r ≤ across
  pub number : (row : ℕ) → row < height r → first + row * across + width r < 2 ^ 63
  pub fits : (row : ℕ) → row < height r → (first + row * across + width r) * depth ≤ 8 * count
