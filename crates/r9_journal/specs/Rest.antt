-- The events that the lines of a text tell.
use Rattle.std.specs.Prelude.{◌≡◌, ℕ, zero, suc, List, [], ◌∷◌, length, Option, Some, None}
use Rattle.std.specs.List.{flat_map, AllByRecursion}
use Rattle.std.specs.Option.{option_map_or}
use Rattle.r9_event.specs.declared.event.event.Event.{Event}
use Rattle.model_history.specs.records.Line.{event_line}
use Rattle.r9_journal.specs.Reading.{IsSmall, cut, event_of}

-- an event in front of others; none where there is no event
abbrev pub in_front : Option Event → List Event → List Event
in_front None events = []
in_front (Some event) events = event ∷ events

-- the events of so many lines at most, up to the first that tells none
unfoldable pub events_by : (most : ℕ) → List ℕ → List Event
events_by zero text = []
events_by (suc most) text = option_map_or (λ parts. in_front (event_of parts.0) (events_by most parts.1)) (cut 10 text) []

-- the events of all lines: there are no more lines than bytes
abbrev pub events_in : List ℕ → List Event
events_in text = events_by (length text) text

-- the text is the lines of these events, and no more
abbrev pub AreLinesOf : List Event → List ℕ → Type 0
AreLinesOf events text = (text ≡ flat_map event_line events) × AllByRecursion IsSmall events
