-- The fonts of a connection, by image id.
use Rattle.std.specs.Prelude.{ℕ, List}
use Rattle.std.specs.Option.{option_map_or}
use Rattle.std.specs.Result.{result_unwrap_or}
use Rattle.model_text.specs.text.Map.{lookup, and}
use Rattle.model_draw_parts.specs.declared.fonts.Cell.{Cell}
use Rattle.model_draw_parts.specs.fonts.Font.{Font, new_font, with_cell}

-- the font of an image id, one without characters where it is none
abbrev pub font_at : List (ℕ × Font) → (id : ℕ) → Font
font_at fonts id = option_map_or (λ f. f) (lookup fonts id) (new_font 0 0)

-- another character at an index that the font has
abbrev pub with_character : Font → (index : ℕ) → Cell → Font
with_character font index c = result_unwrap_or (with_cell font index c) font

-- the same in the font of an image id
abbrev pub with_character_of : List (ℕ × Font) → (id index : ℕ) → Cell → List (ℕ × Font)
with_character_of fonts id index c = and fonts id (with_character (font_at fonts id) index c)
