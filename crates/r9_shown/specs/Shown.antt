-- Blocks of points.
use Rattle.std.specs.Prelude.{◌≡◌, ◌+◌, ◌-◌, ◌^◌, ◌+ℤ◌, ◌<ℤ◌, ◌≤ℤ◌, pos, ℕ, ℤ}
use Rattle.r9_geom.specs.declared.Point.{Point}
use Rattle.r9_geom.specs.declared.Rect.{Rect}
use Rattle.model_forest.specs.World.{World}
use Rattle.model_kept.specs.Keeping.{keeping, own}

-- the point so many rows down
abbrev pub down : Point → ℕ → Point
down p rows = record { x = p.x; y = p.y +ℤ pos rows }

-- so many columns and rows from a point on
abbrev pub block : Point → ℕ → ℕ → Rect
block at columns rows = record { min = at; max = record { x = at.x +ℤ pos columns; y = at.y +ℤ pos rows } }

-- of the n numbers from low on none is from this one on, but for the last number of 64 bits
abbrev pub IsEnd : ℤ → ℕ → ℤ → Type 0
IsEnd low n end = (at high : ℤ) → end ≤ℤ at → at <ℤ high → high ≤ℤ pos (2 ^ 63 - 1) → (low +ℤ pos n) ≤ℤ at

-- an image keeps a point so many rows down where it keeps this one, so many rows down: on the same image
pub record IsKeptBelow (world : World) (i : ℕ) (z : Point) (rows : ℕ) : Type 0 where
  pub image : ℕ
  pub at : Point
  pub here : keeping world i z ≡ own image at
  pub below : keeping world i (down z rows) ≡ own image (down at rows)

-- where so many columns and rows of a rectangle stand, from one of them on
abbrev pub rows_of : Rect → (row rows : ℕ) → Rect
rows_of r row rows = record { min = record { x = r.min.x; y = r.min.y +ℤ pos row }; max = record { x = r.max.x; y = r.min.y +ℤ pos (row + rows) } }
