-- The lines that may come next.
use Rattle.std.specs.Prelude.{◌≡◌, ℕ, List, Some}
use Rattle.model_history.specs.event.Legal.{Roll, Allowed, roll_after}
use Rattle.r9_event.specs.declared.event.event.Event.{Event}
use Rattle.r9_journal.specs.Reading.{message_of_line, event_of}

-- what stands behind the letter of a message and a blank tells one that may come next
abbrev pub FitsMessage : Roll → List ℕ → Type 0
FitsMessage roll text = (event : Event) × (message_of_line text ≡ Some event) × Allowed roll event

-- the line tells an event that may come next, which leads from one roll to the other
abbrev pub IsEntered : (old : Roll) (line : List ℕ) (new : Roll) → Type 0
IsEntered old line new = (event : Event) × (event_of line ≡ Some event) × Allowed old event × (new ≡ roll_after old event)

-- the line tells no event that may come next
abbrev pub IsUnfit : Roll → List ℕ → Type 0
IsUnfit roll line = (event : Event) → event_of line ≡ Some event → Allowed roll event → ⊥
