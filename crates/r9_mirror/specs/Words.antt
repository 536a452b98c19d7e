-- Numbers among the words of a line, taken from its front.
use Rattle.std.specs.Prelude.{ℕ, ◌==◌, List, [], ◌∷◌, length, Option, Some, None, if◌then◌else◌}
use Rattle.std.specs.Borrow.{Bor}
use Rattle.std.specs.List.{slice_split}
use Rattle.std.specs.Option.{option_map_or}
use Rattle.model_text.specs.text.Reading.{◌>>=◌}
use Rattle.model_client.specs.mirror.Lines.{plain}

-- the words of a text
abbrev pub words_of : List ℕ → List (List ℕ)
words_of text = slice_split (λ byte. byte == 32) text

-- the words of a text that is left, or none
abbrev pub words_left : Option (Bor (List ℕ)) → List (List ℕ)
words_left rest = option_map_or (λ text. words_of text.now) rest []

-- the words behind a line's letter, none where the line has another
abbrev pub behind : (letter : ℕ) → List (List ℕ) → List (List ℕ)
behind letter ((first ∷ []) ∷ words) = if first == letter then words else []
behind letter _ = []

-- the number that the first word is, and the words behind it
abbrev pub number_in : List (List ℕ) → Option (ℕ × List (List ℕ))
number_in [] = None
number_in (word ∷ words) = plain word >>= λ n. Some (n, words)

-- the numbers that the first two words are, and the words behind them
abbrev pub two_in : List (List ℕ) → Option ((ℕ × ℕ) × List (List ℕ))
two_in words = number_in words >>= λ first. number_in first.1 >>= λ second. Some ((first.0, second.0), second.1)

-- the numbers that the only two words are
abbrev pub pair_in : List (List ℕ) → Option (ℕ × ℕ)
pair_in words = two_in words >>= λ two. if length two.1 == 0 then Some two.0 else None
