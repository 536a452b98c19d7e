-- The pieces of a text.
use Rattle.std.specs.Prelude.{ℕ, ◌+◌, ◌==◌, ◌||◌, nat_le, List, [], ◌∷◌, ◌++◌, length, if◌then◌else◌}

-- A text cut after each newline, and after so many bytes without one, whichever comes first; a rest is a piece. The
-- first list is what the piece that is not cut yet has so far.
abbrev pub cut : ℕ → List ℕ → List ℕ → List (List ℕ)
cut most [] [] = []
cut most (first ∷ piece) [] = (first ∷ piece) ∷ []
cut most piece (byte ∷ text) =
    if (byte == 10) || nat_le most (length piece + 1) then (piece ++ byte ∷ []) ∷ cut most [] text
    else cut most (piece ++ byte ∷ []) text

unfoldable pub pieces : List ℕ → List (List ℕ)
pieces text = cut 100 [] text
