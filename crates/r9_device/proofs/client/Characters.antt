-- A character of a font among the fonts of a connection.
use Rattle.std.proofs.Common.{◌≡◌, ℕ, true, List, Option, Some, Ok, Err, IsSome, sym, ap, ◌∙◌}
use Rattle.std.specs.Option.{option_map_or, is_some}
use Rattle.std.specs.Result.{result_unwrap_or}
use Rattle.std.specs.Map.{keys_of}
use Rattle.model_text.specs.text.Map.{lookup, with, and}
use Rattle.model_text.specs.text.Outcome.{Outcome}
use Rattle.model_text.specs.map.Ascending.{Ascend}
use Rattle.model_text.proofs.map.Ascending.{and-with}
use Rattle.model_draw_parts.specs.declared.fonts.Cell.{Cell}
use Rattle.model_draw_parts.specs.fonts.Font.{Font, has_index, new_font, with_cell}
use Rattle.r9_device.specs.client.Fonts.{font_at, with_character, with_character_of}

pub font_is : (fonts : List (ℕ × Font)) (id : ℕ) (font : Font) → lookup fonts id ≡ Some font → font_at fonts id ≡ font
font_is fonts id font found = ap (λ (o : Option Font). option_map_or (λ f. f) o (new_font 0 0)) found

-- a font is not refused at an index that it has
pub never_refused : (font : Font) (index n : ℕ) (c : Cell) → has_index font index ≡ true → with_cell font index c ≡ Err n → ⊥
unfolding with_cell
never_refused font index n c has refused = let e = rw has at refused in cc

-- what a character that is set leaves
pub character_is : (font changed : Font) (index : ℕ) (c : Cell) → with_cell font index c ≡ Ok changed → with_character font index c ≡ changed
character_is font changed index c set = ap (λ (r : Outcome Font). result_unwrap_or r font) set

pub character_written : (fonts new : List (ℕ × Font)) (id index : ℕ) (c : Cell) (font changed : Font) → Ascend (keys_of fonts) → lookup fonts id ≡ Some font → with_cell font index c ≡ Ok changed
    → new ≡ with fonts id changed → new ≡ with_character_of fonts id index c
character_written fonts new id index c font changed ascend found set written =
    let there : IsSome (lookup fonts id) = ap (λ (o : Option Font). is_some o) found in
    let is : changed ≡ with_character (font_at fonts id) index c = sym (character_is font changed index c set) ∙ ap (λ (f : Font). with_character f index c) (sym (font_is fonts id font found)) in
    written ∙ sym (and-with fonts id changed ascend there) ∙ ap (λ (f : Font). and fonts id f) is
