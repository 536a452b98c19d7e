-- Cells of 32 places, counted from the first one.
use Rattle.std.specs.Prelude.{ℕ, ◌+◌, ◌*◌, ◌/◌, ◌&&◌, Bool, nat_lt, List, map}
use Rattle.std.specs.List.{count_by, flat_map, range_with_len}

-- how many cells lie over so many places
abbrev pub cells_over : ℕ → ℕ
cells_over count = (count + 31) / 32

-- whether one of so many places from one on lies in a cell
abbrev pub touches : (first len cell : ℕ) → Bool
touches first len cell = nat_lt 0 len && nat_lt first (32 * cell + 32) && nat_lt (32 * cell) (first + len)

-- the cells of a table of so many columns and rows of cells, by column and row, in ascending row and column
abbrev pub cells_in : (across down : ℕ) → List (ℕ × ℕ)
cells_in across down = flat_map (λ row. map (λ column. (column, row)) (range_with_len 0 across)) (range_with_len 0 down)

-- of how many of them something is so
abbrev pub count_cells : (across down : ℕ) → ((column row : ℕ) → Bool) → ℕ
count_cells across down has = count_by (λ cell. has cell.0 cell.1) (cells_in across down)
