-- The characters of a font of which only those that were set are kept.
use Rattle.std.specs.Prelude.{ℕ, List, Option, map}
use Rattle.std.specs.Option.{unwrap_or}
use Rattle.std.specs.List.{range_with_len}
use Rattle.model_draw_parts.specs.declared.fonts.Cell.{Cell}
use Rattle.model_draw_parts.specs.fonts.Font.{empty_cell}

-- n characters: at each index the one that was set, or one without points
unfoldable pub cells_of : (n : ℕ) → (set : ℕ → Option Cell) → List Cell
cells_of n set = map (λ i. unwrap_or (set i) empty_cell) (range_with_len 0 n)
