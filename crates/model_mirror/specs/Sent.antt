-- Which cells of the display a mirror sends after an entry.
use Rattle.std.specs.Prelude.{ℕ, ℤ, pos, ◌+◌, ◌*◌, ◌+ℤ◌, ◌&&◌, ◌||◌, Bool, true, false, not, int_lt, Option, Some, None}
use Rattle.r9_geom.specs.declared.Point.{Point}
use Rattle.r9_geom.specs.Geometry.{is_point}
use Rattle.r9_marks.specs.marks.Cells.{cells_over, count_cells}
use Rattle.model_client.specs.mirror.Picture.{Picture}

-- whether 16 places from one on meet the 32 of a cell
abbrev pub spans : (first : ℤ) → (cell : ℕ) → Bool
spans first cell = int_lt first (pos (32 * cell + 32)) && int_lt (pos (32 * cell)) (first +ℤ pos 16)

-- whether the cursor's square of 16 by 16, where there is one, meets a cell
abbrev pub meets : Option Point → (column row : ℕ) → Bool
meets None column row = false
meets (Some at) column row = spans at.x column && spans at.y row

-- whether the cursor is elsewhere than before
abbrev pub has_moved : (old new : Option Point) → Bool
has_moved None None = false
has_moved (Some old) (Some new) = not (is_point old new)
has_moved _ _ = true

-- After another size each cell is sent; else those that are marked, and where the cursor has moved those that its square met and meets.
abbrev pub sent_after : (resized : Bool) → (old new : Option Point) → (marked : (column row : ℕ) → Bool) → (column row : ℕ) → Bool
sent_after true old new marked column row = true
sent_after false old new marked column row = marked column row || (has_moved old new && (meets old column row || meets new column row))

-- how many cells of a picture are sent
abbrev pub sent_of : Picture → (sent : (column row : ℕ) → Bool) → ℕ
sent_of picture sent = count_cells (cells_over picture.width) (cells_over picture.height) sent
