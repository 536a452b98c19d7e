-- The names of windows' images.
use Rattle.std.specs.Prelude.{ℕ, List, ◌++◌, codes}
use Rattle.std.specs.Fmt.{decimal}

-- a number of a path, with others to follow
abbrev pub slashed : ℕ → List ℕ
slashed n = decimal n ++ codes "/"
