-- The lines of a session that did not end plainly.
use Rattle.std.specs.Prelude.{ℕ, List, [], ◌∷◌, ◌++◌, codes, Option, Some, None, is_some, ◌||◌, if◌then◌else◌}
use Rattle.std.specs.Fmt.{decimal}
use Rattle.model_history.specs.records.Line.{line}
use Rattle.r9_attend.specs.declared.attend.ends.Attended.{Attended}
use Rattle.r9_attend.specs.declared.attend.ends.ReadEnd.{ReadEnd}
use Rattle.r9_attend.specs.declared.attend.ends.ReadEnd.TheVariants.{Cut, BadSize, Duplicate, ReadFault, Memory}
use Rattle.r9_attend.specs.declared.attend.ends.WriteEnd.{WriteEnd}
use Rattle.r9_attend.specs.declared.attend.ends.WriteEnd.TheVariants as written
use Rattle.r9_attend.specs.declared.workers.lines.Unplain.{Unplain}

-- what a line says of a reader's end, if it has a line
abbrev pub read_text : ReadEnd → Option (List ℕ)
read_text (BadSize size) = Some (codes "bad size " ++ decimal size)
read_text (Cut count) = Some (codes "cut")
read_text (Duplicate tag) = Some (codes "duplicate tag " ++ decimal tag)
read_text ReadFault = Some (codes "read fault")
read_text Memory = Some (codes "memory")
read_text _ = None

abbrev pub write_text : WriteEnd → Option (List ℕ)
write_text written.WriteFault = Some (codes "write fault")
write_text written.Memory = Some (codes "memory")
write_text _ = None

abbrev pub session_line : (session : ℕ) → Option (List ℕ) → List ℕ
session_line session (Some text) = line (codes "session " ++ decimal session ++ codes ": " ++ text)
session_line session None = []

-- the reader's line first
abbrev pub lines_of : Unplain → List ℕ
lines_of ends = session_line ends.session (read_text ends.reader) ++ session_line ends.session (write_text ends.writer)

-- where an end has a line, the session with its ends
abbrev pub with_session : Attended → Option ℕ → List Unplain
with_session ends None = []
with_session ends (Some c) =
    if is_some (read_text ends.reader) || is_some (write_text ends.writer)
    then record { session = c; reader = ends.reader; writer = ends.writer } ∷ [] else []

abbrev pub unplain_of : Attended → List Unplain
unplain_of ends = with_session ends ends.session
