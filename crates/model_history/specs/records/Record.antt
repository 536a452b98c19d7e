-- The text of a history, and where a text that is none goes wrong.
use Rattle.std.specs.Prelude.{◌≡◌, ◌<◌, ◌≤◌, ◌^◌, ◌⊎◌, ℕ, List, [], ◌++◌, codes, length, take}
use Rattle.std.specs.Fmt.{decimal}
use Rattle.std.specs.List.{flat_map}
use Rattle.r9_event.specs.declared.event.event.Event.{Event}
use Rattle.model_history.specs.event.Legal.{IsLegal}
use Rattle.model_history.specs.records.Line.{line, event_line}

-- the header of a record, and the one that tells the number n of the first entry
abbrev pub header : List ℕ
header = codes "rio9 1"

abbrev pub header_from : ℕ → List ℕ
header_from n = codes "rio9 2 " ++ decimal n

-- a header tells a number below this
abbrev pub number_limit : ℕ
number_limit = 2 ^ 62

-- the header, once, and then a line for each event
abbrev pub record_of : List Event → List ℕ
record_of events = line header ++ flat_map event_line events

-- the same with the header that tells where the entries' numbers begin
abbrev pub record_from : ℕ → List Event → List ℕ
record_from n events = line (header_from n) ++ flat_map event_line events

-- the text is spelled as the history is, under a header behind which the first entry has the number 1
abbrev pub IsSpelled : List ℕ → List Event → Type 0
IsSpelled text events = (text ≡ record_of events) ⊎ (text ≡ record_from 1 events)

-- a text is shorter than this
abbrev pub text_limit : ℕ
text_limit = 2 ^ 30

-- the text is a record of the history
pub record IsRecord (text : List ℕ) (events : List Event) : Type 0 where
  pub spelled : IsSpelled text events
  pub legal : IsLegal events
  pub short : length text < text_limit

-- The first line is a header that tells a number above 1: what came before that entry stands elsewhere. What follows the line
-- may be anything.
pub record IsLate (text : List ℕ) (n : ℕ) : Type 0 where
  pub above : 1 < n
  pub within : n < number_limit
  pub rest : List ℕ
  pub headed : text ≡ line (header_from n) ++ rest
  pub short : length text < text_limit

-- a front of a record that ends where a line ends
abbrev pub IsFront : List ℕ → Type 0
IsFront text = (text ≡ []) ⊎ ((events : List Event) × IsSpelled text events × IsLegal events)

-- The place of the first line that does not fit: the longest front of the text that is one of a record ends there. Bytes
-- behind the last newline are such a line, and so is what an empty text lacks.
pub record IsFirstBad (text : List ℕ) (place : ℕ) : Type 0 where
  pub within : place ≤ length text
  pub front : IsFront (take place text)
  pub longest : (n : ℕ) → place < n → n ≤ length text → IsFront (take n text) → ⊥

-- the text is no record, and is not late
pub record IsNeither (text : List ℕ) : Type 0 where
  pub no_record : (events : List Event) → IsRecord text events → ⊥
  pub not_late : (n : ℕ) → IsLate text n → ⊥

-- Where a text that is no record goes wrong. One that reaches the limit does so there.
abbrev pub IsBadAt : (text : List ℕ) (place : ℕ) → Type 0
IsBadAt text place = ((text_limit ≤ length text) × (place ≡ text_limit))
    ⊎ ((length text < text_limit) × IsFirstBad text place × IsNeither text)
