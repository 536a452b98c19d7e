-- The header that a text begins with.
use Rattle.std.specs.Prelude.{◌≡◌, ◌<◌, ◌≤◌, ◌⊎◌, ℕ, List, ◌++◌}
use Rattle.model_history.specs.records.Line.{line}
use Rattle.model_history.specs.records.Record.{header, header_from, number_limit}

-- the text is a header, behind which the first entry has the number n
abbrev pub IsHeader : (text : List ℕ) (n : ℕ) → Type 0
IsHeader text n = ((text ≡ header) × (n ≡ 1)) ⊎ ((text ≡ header_from n) × (1 ≤ n) × (n < number_limit))

-- the first line is such a header, and this stands behind it
abbrev pub IsHeaded : (text : List ℕ) (n : ℕ) (rest : List ℕ) → Type 0
IsHeaded text n rest = (head : List ℕ) × IsHeader head n × (text ≡ line head ++ rest)
