-- What waits for sessions to be taken.
use Rattle.std.specs.Prelude.{ℕ, List, []}
use Rattle.std.specs.Option.{unwrap_or}
use Rattle.r9_event.specs.declared.event.event.Event.{Event}
use Rattle.r9_event.specs.declared.event.event.Event.TheVariants.{Take}
use Rattle.model_text.specs.text.Map.{lookup}

-- what waits for a session; nothing where it has no outbox
abbrev pub waiting : List (ℕ × List ℕ) → ℕ → List ℕ
waiting outboxes c = unwrap_or (lookup outboxes c) []

-- what an event takes of it
abbrev pub taken : List (ℕ × List ℕ) → Event → List ℕ
taken outboxes (Take c) = waiting outboxes c
taken outboxes event = []
