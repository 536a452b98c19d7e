-- The marks of a plane: which cells of 32 by 32 points, counted from the min of its rectangle, were written.
use Rattle.std.specs.Prelude.{ℕ, Bool, ◌&&◌}
use Rattle.r9_geom.specs.declared.Rect.{Rect}
use Rattle.r9_geom.specs.Geometry.{distance, height, width}
use Rattle.r9_marks.specs.declared.marks.Marks.{Marks}
use Rattle.r9_marks.specs.marks.Cells.{touches}
use Rattle.r9_marks.specs.marks.Marks as table
use Rattle.r9_plane.specs.declared.plane.Plane.{Plane}

abbrev pub marks_of : Plane → Marks
marks_of plane = plane.marks

-- whether the cell in a column and row of cells is marked; one beside the rectangle is not
abbrev pub marked_at : Plane → (column row : ℕ) → Bool
marked_at plane = table.marked plane.marks

-- how many cells are marked
abbrev pub mark_count : Plane → ℕ
mark_count plane = table.marked_count plane.marks

-- whether a cell of a rectangle has a point of a part of that
abbrev pub touched : (r part : Rect) → (column row : ℕ) → Bool
touched r part column row =
    touches (distance r.min.x part.min.x) (width part) column && touches (distance r.min.y part.min.y) (height part) row
