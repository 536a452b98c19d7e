-- What a console holds beside what its model tells.
use Rattle.std.specs.Prelude.{◌≡◌, ℕ, ◌+◌, ◌≤◌, min, List, [], ◌∷◌, length, drop, slice_index_or}
use Rattle.model_files.specs.console.Console as model

-- the lines that wait, where so many bytes of the first were read
abbrev pub unread : ℕ → List (List ℕ) → List (List ℕ)
unread taken [] = []
unread taken (line ∷ lines) = drop taken line ∷ lines

-- The first line has the bytes that were read, the bytes that wait are counted and few, and no more of the text is
-- kept than is shown.
pub record IsConsole (c : model.Console) (taken held : ℕ) (ended : List (List ℕ)) : Type 0 where
  pub within : taken ≤ length (slice_index_or ended 0 [])
  pub counted : held ≡ model.held c
  pub few : held + min 1 (length c.line) ≤ 8193
  pub short : length c.written ≤ 65536
