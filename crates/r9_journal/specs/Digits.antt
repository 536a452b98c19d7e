-- The digits of a message, as a text that is not read into bytes.
use Rattle.std.specs.Prelude.{◌≡◌, ◌≤◌, ◌/◌, ℕ, Bool, true, false, IsTrue, List, Option, Some, None, length, take, nat_le, is_some}
use Rattle.std.specs.Option.{option_map_or}
use Rattle.model_text.specs.text.Hex.{hex, unhex}
use Rattle.model_text.specs.text.Number.{four_bytes}
use Rattle.model_history.specs.event.Legal.{IsMessage}
use Rattle.r9_journal.specs.Reading.{exclaimed}

-- digits of 7 to 65,560 bytes, of which the first four are their number
pub record AreMessageDigits (text : List ℕ) : Type 0 where
  pub long : 14 ≤ length text
  pub short : length text ≤ 131120
  pub sized : take 8 text ≡ hex (four_bytes (length text / 2))
  pub digits : is_some (unhex text) ≡ true

-- the text spells a whole message
abbrev pub SpellsMessage : List ℕ → Type 0
SpellsMessage text = (bytes : List ℕ) × (unhex text ≡ Some bytes) × IsMessage bytes

-- a mark that a message may have
abbrev pub is_mark : List ℕ → Bool
is_mark word = option_map_or (λ mark. nat_le mark 65535) (exclaimed word) false

-- the same of digits with a mark behind them where there are two parts
abbrev pub SpellsMarked : List ℕ → Option (List ℕ × List ℕ) → Type 0
SpellsMarked text None = SpellsMessage text
SpellsMarked text (Some parts) = SpellsMessage parts.0 × IsTrue (is_mark parts.1)
