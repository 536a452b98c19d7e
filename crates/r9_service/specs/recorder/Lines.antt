-- The lines of a record, and what of them was put.
use Rattle.std.specs.Prelude.{◌^◌, ℕ, List, ◌∷◌, ◌++◌, length, map, take, drop}
use Rattle.std.specs.List.{concat, flat_map}
use Rattle.r9_event.specs.declared.event.event.Entry.{Entry}
use Rattle.model_history.specs.event.Journal.{events_of}
use Rattle.model_history.specs.records.Line.{line, event_line}
use Rattle.model_history.specs.records.Record.{header_from}

-- the header behind which the entries are numbered from 1, and then a line for each entry: the entry n has the line n
abbrev pub record_lines : List Entry → List (List ℕ)
record_lines history = line (header_from 1) ∷ map event_line (events_of history)

-- the line with this number, or none
abbrev pub line_at : ℕ → List (List ℕ) → List ℕ
line_at n lines = concat (take 1 (drop n lines))

-- the lines before the next one, and so many bytes of that
abbrev pub front_of : (next part : ℕ) → List (List ℕ) → List ℕ
front_of next part lines = concat (take next lines) ++ take part (line_at next lines)

-- how many bytes the lines of entries have
abbrev pub size_of : List Entry → ℕ
size_of entries = length (flat_map event_line (events_of entries))

-- where entries are written once their lines have as many bytes
abbrev pub size_limit : ℕ
size_limit = 2 ^ 20
