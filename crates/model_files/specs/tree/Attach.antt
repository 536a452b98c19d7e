-- What the name of an attach asks for (attach(5), rio(4)).
use Rattle.std.specs.Prelude.{ℕ, ◌-◌, ◌==◌, Bool, List, [], ◌++◌, length, take, drop, codes, Option, Some, None, if◌then◌else◌}
use Rattle.std.specs.List.{before_first}
use Rattle.std.specs.Str.{bytes_eq}
use Rattle.model_files.specs.wctl.Words.{path}

pub data Attach : Type 0 where
  -- the device tree
  Whole : Attach
  -- the tree of the live window of a path
  Existing : (path : List ℕ) → Attach
  -- the tree of a new window in the rio that the window of a path hosts, the root's where it is empty, by a command
  Fresh : (path : List ℕ) (command : List ℕ) → Attach
  -- no name of a tree
  Unknown : Attach

abbrev pub existing : Option (List ℕ) → Attach
existing None = Unknown
existing (Some path) = Existing path

abbrev pub fresh : List ℕ → Option (List ℕ) → Attach
fresh command None = Unknown
fresh command (Some path) = Fresh path command

-- the last four bytes are those of /new
abbrev pub ends_in_new : List ℕ → Bool
ends_in_new word = bytes_eq (drop (length word - 4) word) (codes "/new")

-- The empty name is the device tree's. `new`, or a path and `/new`, may be followed by a blank and options, which are
-- those of the command `new`. Any other name is a path.
unfoldable pub attach_of : List ℕ → Attach
attach_of name =
    let word = before_first (λ byte. byte == 32) name in
    let command = codes "new" ++ drop (length word) name in
    if length name == 0 then Whole
    else if bytes_eq word (codes "new") then Fresh [] command
    else if ends_in_new word then fresh command (path (take (length word - 4) word))
    else existing (path name)
