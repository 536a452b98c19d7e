-- The events that wait for reads of a mouse file, and what a read gives (mouse(3), rio(4)).
use Rattle.std.specs.Prelude.{ℕ, pos, ◌-◌, ◌==◌, Bool, true, false, List, [], ◌∷◌, ◌++◌, length, drop, Option, Some, None, if◌then◌else◌}
use Rattle.std.specs.Option.{option_map}
use Rattle.model_files.specs.mouse.Pointer.{Pointer, text}

-- The clicks that wait, the oldest first; the move that waits; the last event; and whether the window got a new
-- image since the last answer.
pub record Queue : Type 0 where
  pub clicks : List Pointer
  pub move : Option Pointer
  pub last : Pointer
  pub changed : Bool

abbrev pub no_event : Pointer
no_event = record { x = pos 0; y = pos 0; buttons = 0; msec = 0 }

abbrev pub no_events : Queue
no_events = record { clicks = []; move = None; last = no_event; changed = false }

-- the last so many of a list
abbrev pub last_of : {A : Type 0} → ℕ → List A → List A
last_of n xs = drop (length xs - n) xs

-- An event comes. With other buttons than the last one it is a click, and the move that waits is dropped; of the
-- clicks the last 16 wait. Otherwise it is the move that waits.
unfoldable pub fed : Pointer → Queue → Queue
fed e q =
    if e.buttons == q.last.buttons then record q { move = Some e; last = e }
    else record q { clicks = last_of 16 (q.clicks ++ e ∷ []); move = None; last = e }

-- the window has a new image
abbrev pub resized : Queue → Queue
resized q = record q { changed = true }

-- the event that a read gives: the oldest click, else the move, else with a new image the last event again
abbrev pub next : List Pointer → Option Pointer → Queue → Option Pointer
next (e ∷ clicks) move q = Some e
next [] (Some e) q = Some e
next [] None q = if q.changed then Some q.last else None

-- the letter and the event that a read gives, or None where it waits
unfoldable pub answer : Queue → Option (ℕ × Pointer)
answer q = option_map (λ e. (if q.changed then 114 else 109, e)) (next q.clicks q.move q)

abbrev pub rest : List Pointer → Queue → Queue
rest (e ∷ clicks) q = record q { clicks = clicks; changed = false }
rest [] q = record q { move = None; changed = false }

-- a read was answered
unfoldable pub answered : Queue → Queue
answered q = rest q.clicks q

-- the bytes that a read gives
abbrev pub answer_text : Queue → Option (List ℕ)
answer_text q = option_map (λ a. text a.0 a.1) (answer q)
