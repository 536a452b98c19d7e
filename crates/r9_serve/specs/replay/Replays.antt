-- What a replay reads and puts out.
use Rattle.std.specs.Prelude.{◌≡◌, ℕ, Bool, List, [], ◌++◌, codes, length, Option, IfSome, if◌then◌else◌}
use Rattle.std.specs.Fmt.{decimal}
use Rattle.r9_event.specs.declared.event.event.Event.{Event}
use Rattle.r9_event.specs.declared.event.event.Opening.{Opening}
use Rattle.model_draw.specs.draw.Files.{screen_file}
use Rattle.model_world.specs.Replay.{replay, replies}
use Rattle.model_history.specs.records.Line.{line, reply_lines}
use Rattle.model_history.specs.records.Record.{IsRecord, IsBadAt, IsLate, text_limit}
use Rattle.r9_outside.specs.input.Taken.{WasReadTo}

-- how many bytes the screen's file has, and the file
abbrev pub screen_lines : List ℕ → List ℕ
screen_lines file = line (codes "S " ++ decimal (length file)) ++ file

-- the reply lines of a history, and then the screen to which it led where that is asked for
abbrev pub replay_output : Opening → (screen : Bool) → List Event → List ℕ
replay_output opening screen events =
    reply_lines (replies opening events)
    ++ (if screen then screen_lines (screen_file (replay opening events).desktop.device) else [])

-- The input, where it is told, had the record of this history, and the text is the record of no other.
pub record HadRecord (left : Option (List ℕ)) (events : List Event) : Type 0 where
  pub text : List ℕ
  pub told : IfSome left (λ bytes. bytes ≡ text)
  pub is_record : IsRecord text events
  pub one : (others : List Event) → IsRecord text others → events ≡ others

-- The input, where it is told, was no record, and went wrong at this place.
abbrev pub WasBadAt : (left : Option (List ℕ)) → ℕ → Type 0
WasBadAt left place = IfSome left (λ text. IsBadAt text place)

-- The input, where it is told, was a record's part whose entries are numbered from n, which is above 1.
abbrev pub WasLate : (left : Option (List ℕ)) → (n : ℕ) → Type 0
WasLate left n = IfSome left (λ text. IsLate text n)

-- this is the output of a replay, over the history whose record the input had
pub record AreReplyLines (opening : Opening) (screen : Bool) (left : Option (List ℕ)) (lines : List ℕ) : Type 0 where
  pub events : List Event
  pub had : HadRecord left events
  pub are_lines : lines ≡ replay_output opening screen events

-- The input, where it is told, was read to its end, or to the limit of a record.
abbrev pub WasRead : (before after : Option (List ℕ)) → Type 0
WasRead before after = WasReadTo text_limit before after
