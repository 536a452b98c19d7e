-- What happens at a window's mouse file, as one list (mouse(3), rio(4)).
use Rattle.std.specs.Prelude.{◌≡◌, ◌==◌, List, [], ◌∷◌, ◌++◌, Option, Some, None, if◌then◌else◌}
use Rattle.std.specs.List.{fold, filter_map, last_or}
use Rattle.std.specs.Option.{unwrap_or}
use Rattle.model_files.specs.mouse.Pointer.{Pointer}
use Rattle.model_files.specs.mouse.Queue.{Queue, no_event, no_events, fed, resized, answered}

-- an event comes, the window gets a new image, or a read is answered
pub data Happening : Type 0 where
  Event : (e : Pointer) → Happening
  Image : Happening
  Answer : Happening

abbrev pub happened : Queue → Happening → Queue
happened q (Event e) = fed e q
happened q Image = resized q
happened q Answer = answered q

-- the queue after all that happened
unfoldable pub queue_after : List Happening → Queue
queue_after all = fold happened no_events all

abbrev pub event_in : Happening → Option Pointer
event_in (Event e) = Some e
event_in _ = None

-- the last event of all, or zeros where there was none
abbrev pub last_of_all : List Happening → Pointer
last_of_all all = unwrap_or (last_or None (filter_map event_in all)) no_event

-- the events with other buttons than the one before, which is given for the first
abbrev pub clicks_among : Pointer → List Pointer → List Pointer
clicks_among before [] = []
clicks_among before (e ∷ es) = if e.buttons == before.buttons then clicks_among e es else e ∷ clicks_among e es

-- all clicks that came, in order
abbrev pub clicks_of : List Happening → List Pointer
clicks_of all = clicks_among no_event (filter_map event_in all)

-- the second list stands at the end of the first
abbrev pub EndsIn : {A : Type 0} → List A → List A → Type 0
EndsIn {A} whole end = (front : List A) × (whole ≡ front ++ end)
