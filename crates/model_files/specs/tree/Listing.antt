-- Reading a directory (read(5), stat(5)).
use Rattle.std.specs.Prelude.{◌≡◌, ◌<◌, ◌^◌, ◌+◌, ◌*◌, ℕ, slice_index, nat_le, List, [], ◌∷◌, length, map, if◌then◌else◌, ◌-◌}
use Rattle.std.specs.List.{concat}
use Rattle.model_files.specs.wire.Spelling.{sized, stat_bytes}
use Rattle.model_files.specs.tree.Node.{Node}
use Rattle.model_files.specs.tree.Tree.{View, files, stat_named}

-- the stats of the files of a directory, in order
unfoldable pub stats : View → Node → List (List ℕ)
stats view node = map (λ file. stat_bytes (stat_named file.0 file.1)) (files view node)

unfoldable pub listing : View → Node → List ℕ
listing view node = concat (stats view node)

-- as many whole pieces from the front as fit into so many bytes
abbrev pub fitting : ℕ → List (List ℕ) → List (List ℕ)
fitting count [] = []
fitting count (piece ∷ pieces) =
    if nat_le (length piece) count then piece ∷ fitting (count - length piece) pieces else []

-- a piece that begins with the length of what follows, as each stat does
pub record IsSized (piece : List ℕ) : Type 0 where
  pub body : List ℕ
  pub fits : length body < 2 ^ 16
  pub spelled : piece ≡ sized body

-- how many bytes the piece has that stands first, by its first two
abbrev pub first_length : List ℕ → ℕ
first_length bytes = 2 + slice_index bytes 0 + 256 * slice_index bytes 1
