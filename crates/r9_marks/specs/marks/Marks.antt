-- Which cells have a mark, by their column and row.
use Rattle.std.specs.Prelude.{ℕ, ◌+◌, ◌*◌, ◌&&◌, Bool, false, List, nat_lt, slice_index_or}
use Rattle.std.specs.List.{count_by}
use Rattle.r9_marks.specs.declared.marks.Marks.{Marks}

-- whether a place of a list that tells so many places of each row is marked
abbrev pub marked_in : List Bool → (across column row : ℕ) → Bool
marked_in bits across column row = nat_lt column across && slice_index_or bits (row * across + column) false

abbrev pub across_of : Marks → ℕ
across_of marks = marks.across

abbrev pub down_of : Marks → ℕ
down_of marks = marks.down

-- whether a cell is marked; one beside the table is not
abbrev pub marked : Marks → (column row : ℕ) → Bool
marked marks column row = marked_in marks.bits.items marks.across column row

-- how many cells are marked
abbrev pub marked_count : Marks → ℕ
marked_count marks = count_by (λ mark. mark) marks.bits.items
