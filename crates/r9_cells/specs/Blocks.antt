-- Rectangles of a window, cut at the edges of its cells.
use Rattle.std.specs.Prelude.{◌≡◌, ◌-◌, ◌%◌, ◌/◌, ◌+ℤ◌, ℕ, ℤ, pos, true, min}
use Rattle.r9_geom.specs.declared.Point.{Point}
use Rattle.r9_geom.specs.declared.Rect.{Rect}
use Rattle.r9_geom.specs.Geometry.{distance, height, holds, point_at, width}
use Rattle.model_kept.specs.Cells.{cell_of}

-- of n points from one on, how many there are to the end of its cell
abbrev pub to_edge : (from at : ℤ) → ℕ → ℕ
to_edge from at n = min n (32 - distance from at % 32)

-- the points of a rectangle from a row on, as far as they lie in one row of cells
abbrev pub band_from : Rect → Rect → ℕ → Rect
band_from r block row =
    let at = point_at block 0 row in
    record { min = at; max = record { x = block.max.x; y = at.y +ℤ pos (to_edge r.min.y at.y (height block - row)) } }

-- and from a column on, as far as they lie in one column of cells
abbrev pub part_from : Rect → Rect → ℕ → Rect
part_from r band column =
    let at = point_at band column 0 in
    record { min = at; max = record { x = at.x +ℤ pos (to_edge r.min.x at.x (width band - column)); y = band.max.y } }

-- a rectangle lies in one row of cells
abbrev pub IsInRow : Rect → Rect → Type 0
IsInRow r band = (p : Point) → holds band p ≡ true → distance r.min.y p.y / 32 ≡ distance r.min.y band.min.y / 32

-- a rectangle lies in one cell
abbrev pub IsInCell : Rect → Rect → Type 0
IsInCell r part = (p : Point) → holds part p ≡ true → cell_of r p ≡ cell_of r part.min
