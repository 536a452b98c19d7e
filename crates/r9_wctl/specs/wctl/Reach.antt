-- How far the edges of a rectangle may be from 0 while options are applied.
use Rattle.std.specs.Prelude.{ℕ, ℤ, ◌≡◌, pos, neg_ℤ, ◌≤ℤ◌, ◌-ℤ◌, ◌+◌, ◌*◌, ◌^◌, Bool, false}
use Rattle.r9_geom.specs.declared.Rect.{Rect}

-- at most so far from 0
pub record IsWithin (n : ℕ) (z : ℤ) : Type 0 where
  pub low : neg_ℤ (pos n) ≤ℤ z
  pub high : z ≤ℤ pos n

abbrev pub IsFar : ℤ → Type 0
IsFar z = IsWithin (2 ^ 50) z

pub record IsFarRect (r : Rect) : Type 0 where
  pub left : IsFar r.min.x
  pub top : IsFar r.min.y
  pub right : IsFar r.max.x
  pub bottom : IsFar r.max.y

-- how far an edge may be after so many options
abbrev pub reach : ℕ → ℕ
reach k = 2 ^ 40 + k * 10000000

-- The lower edge and the size are in reach. So is the upper edge, unless it follows the lower one.
pub record IsSpan (moves : Bool) (k : ℕ) (low high : ℤ) : Type 0 where
  pub edge : IsWithin (reach k) low
  pub size : IsWithin (reach k + reach k) (high -ℤ low)
  pub end : moves ≡ false → IsWithin (reach k) high

pub record IsReached (moves : Bool) (k : ℕ) (r : Rect) : Type 0 where
  pub across : IsSpan moves k r.min.x r.max.x
  pub down : IsSpan moves k r.min.y r.max.y
