-- Characters that stand one behind the other in bytes.
use Rattle.std.specs.Prelude.{ℕ, List, [], ◌∷◌, take, drop}
use Rattle.std.specs.List.{sum_by}

-- the characters of these lengths
abbrev pub cut : List ℕ → List ℕ → List (List ℕ)
cut [] bytes = []
cut (len ∷ lens) bytes = take len bytes ∷ cut lens (drop len bytes)

-- how many bytes they have
abbrev pub total : List ℕ → ℕ
total lens = sum_by (λ len. len) lens
