-- The moves of a piece, from the place where the next character goes.
use Rattle.std.specs.Prelude.{◌≡◌, ◌≤◌, ℕ, ◌+◌, ◌*◌, ◌==◌, not, nat_lt, List, [], ◌∷◌, length, take, All, Some, if◌then◌else◌}
use Rattle.std.specs.List.{take_while}
use Rattle.model_client.specs.declared.textwin.Move.{Move}
use Rattle.model_client.specs.declared.textwin.Move.TheVariants.{Scroll, Put}
use Rattle.model_client.specs.textwin.Moves.{all_moved, put_codes, screen}
use Rattle.model_client.specs.textwin.Wrap.{Page, characters, wrapped}
use Rattle.r9_textwin.specs.Window.{IsBehind, IsSpot, IsWithin, Spot}

-- a new row
abbrev pub row_moves : Spot → List Move
row_moves s = if nat_lt (s.row + 1) s.rows then [] else Scroll ∷ []

abbrev pub row_place : Spot → Spot
row_place s = record s { row = (if nat_lt (s.row + 1) s.rows then s.row + 1 else s.row); column = 0 }

-- a new row where this one is full
abbrev pub room_moves : Spot → List Move
room_moves s = if nat_lt s.column s.columns then [] else row_moves s

abbrev pub room_place : Spot → Spot
room_place s = if nat_lt s.column s.columns then s else row_place s

-- characters go to the row
abbrev pub put_moves : Spot → List ℕ → List Move
put_moves s codes = Put s.row s.column codes ∷ []

abbrev pub put_place : Spot → (len : ℕ) → Spot
put_place s len = record s { column = s.column + len }

-- the characters that bytes begin with, at most so many: those before the first newline
abbrev pub run : (most : ℕ) → List ℕ → List ℕ
run most bytes = take_while (λ byte. not (byte == 10)) (take most bytes)

-- Moves that bring what is shown before some bytes to what is shown after them, whatever the text was so far, and the place
-- with it. They put just the characters of the bytes, and are at most two for each byte.
pub record Brings (s : Spot) (bytes : List ℕ) (moves : List Move) (next : Spot) : Type 0 where
  pub shown : (p : Page) → IsBehind s p → all_moved s.columns moves (screen s.rows p) ≡ Some (screen s.rows (wrapped s.columns p bytes))
  pub behind : (p : Page) → IsBehind s p → IsBehind next (wrapped s.columns p bytes)
  pub codes : put_codes moves ≡ characters bytes
  pub few : length moves ≤ 2 * length bytes
  pub within : All (IsWithin s.columns s.rows) moves
  pub is : IsSpot next
  pub same_columns : next.columns ≡ s.columns
  pub same_rows : next.rows ≡ s.rows
