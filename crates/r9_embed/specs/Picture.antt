-- The cells of a display.
use Rattle.std.specs.Prelude.{◌<◌, ℕ}
use Rattle.r9_geom.specs.declared.Rect.{Rect}
use Rattle.r9_geom.specs.Geometry.{height, width}
use Rattle.r9_marks.specs.marks.Cells.{cells_over}

-- a display of this rectangle has a cell of 32 by 32 points in the column and the row
abbrev pub IsCell : Rect → (column row : ℕ) → Type 0
IsCell r column row = (column < cells_over (width r)) × (row < cells_over (height r))
