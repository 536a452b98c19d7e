-- What calls on uses promise.
use Rattle.std.specs.Prelude.{ℕ, List, [], ◌∷◌, slice_get, Option, Some, None}
use Rattle.std.specs.Option.{unwrap_or}
use Rattle.r9_event.specs.declared.event.own.Use.{Use}
use Rattle.model_files.specs.wctl.Words.{words_of}

-- at most one use, as a list
abbrev pub uses_of : Option Use → List Use
uses_of None = []
uses_of (Some used) = used ∷ []

-- the first word of a line, empty where it has none
abbrev pub word_of : (line : List ℕ) → List ℕ
word_of line = unwrap_or (slice_get (words_of line) 0) []
