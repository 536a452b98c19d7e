-- Stretches of bytes, one behind the other.
use Rattle.std.specs.Prelude.{◌+◌, ◌*◌, ◌++◌, ℕ, zero, suc, List, [], take, drop}

-- so many lines of bytes, of which each begins so many behind the one before
abbrev pub lines_of : List ℕ → (first across line count : ℕ) → List ℕ
lines_of bytes first across line zero = []
lines_of bytes first across line (suc n) = lines_of bytes first across line n ++ take line (drop (first + n * across) bytes)
