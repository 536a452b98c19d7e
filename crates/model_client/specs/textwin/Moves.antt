-- What moves make of the rows that a window shows.
use Rattle.std.specs.Prelude.{ℕ, ◌+◌, ◌-◌, ◌==◌, ◌&&◌, nat_le, List, [], ◌∷◌, ◌++◌, length, drop, replicate, set, slice_get, Option, Some, None, if◌then◌else◌}
use Rattle.std.specs.List.{flat_map}
use Rattle.std.specs.Option.{option_and_then}
use Rattle.model_client.specs.textwin.Wrap.{Page, rows, shown}
pub use Rattle.model_client.specs.declared.textwin.Move.{Move}
pub use Rattle.model_client.specs.declared.textwin.Move.TheVariants.{Scroll, Put}

-- the rows that a window of so many rows shows, with empty ones below them
abbrev pub screen : ℕ → Page → List (List ℕ)
screen count p = shown count (rows p) ++ replicate (count - length (rows p)) []

-- characters that go to a row from a column on, where the row ends just there and has room for them: a row has at most
-- so many columns
abbrev pub put_at : (columns : ℕ) → List (List ℕ) → ℕ → ℕ → List ℕ → Option (List (List ℕ))
put_at columns screen row column codes =
    option_and_then
    (λ old. if (length old == column) && nat_le (column + length codes) columns then Some (set screen row (old ++ codes)) else None)
    (slice_get screen row)

-- what a window shows after a move; None where the move does not fit
abbrev pub moved : (columns : ℕ) → Move → List (List ℕ) → Option (List (List ℕ))
moved columns Scroll screen = Some (drop 1 screen ++ [] ∷ [])
moved columns (Put row column codes) screen = put_at columns screen row column codes

abbrev pub all_moved : (columns : ℕ) → List Move → List (List ℕ) → Option (List (List ℕ))
all_moved columns [] screen = Some screen
all_moved columns (move ∷ moves) screen = option_and_then (all_moved columns moves) (moved columns move screen)

-- the characters that a move puts, and those that moves put, in order
abbrev pub codes_of : Move → List ℕ
codes_of Scroll = []
codes_of (Put row column codes) = codes

abbrev pub put_codes : List Move → List ℕ
put_codes moves = flat_map codes_of moves
