-- The input of a desk: events of the mouse on the display, each a text of 49 bytes (mouse(3)).
use Rattle.std.specs.Prelude.{ℕ, pos, zero, suc, ◌+◌, ◌/◌, ◌&&◌, Bool, nat_le, List, [], ◌∷◌, length, take, drop, Option, Some, None, Ok, if◌then◌else◌}
use Rattle.std.specs.Option.{option_and_then}
use Rattle.model_text.specs.text.Outcome.{Outcome, ◌>>=◌, refuse_if, value_or_refuse}
use Rattle.model_files.specs.declared.mouse.Mouse.{Mouse}
use Rattle.model_files.specs.mouse.Pointer.{is_within, pointer_of}

-- an input has fewer bytes than this
abbrev pub limit : ℕ
limit = 1048576

-- how long the text of an event is
abbrev pub event_len : ℕ
event_len = 49

-- the display is 640 wide and 480 high
abbrev pub is_on_display : Mouse → Bool
is_on_display e = is_within (pos 0) (pos 639) e.x && is_within (pos 0) (pos 479) e.y

-- the event that a text tells, where it is on the display
unfoldable pub event_of : List ℕ → Option Mouse
event_of text = option_and_then (λ e. if is_on_display e then Some e else None) (pointer_of text)

-- so many texts, one after the other, of which the end of the bytes may cut the last
abbrev pub texts_in : (count : ℕ) → List ℕ → List (List ℕ)
texts_in zero bytes = []
texts_in (suc count) bytes = take event_len bytes ∷ texts_in count (drop event_len bytes)

-- the events that texts tell, the first of which stands at a place, or the place of one that tells none
abbrev pub told : (place : ℕ) → List (List ℕ) → Outcome (List Mouse)
told place [] = Ok []
told place (text ∷ texts) = value_or_refuse (event_of text) place >>= λ e. told (place + event_len) texts >>= λ events. Ok (e ∷ events)

-- the events that bytes tell to their end, from a place on
unfoldable pub events_from : (place : ℕ) → List ℕ → Outcome (List Mouse)
events_from place bytes = told place (texts_in ((length bytes + 48) / event_len) bytes)

-- The events that an input is, or the place of the first text that tells none. Bytes that reach the limit are bad there.
unfoldable pub events_of : List ℕ → Outcome (List Mouse)
events_of bytes = refuse_if (nat_le limit (length bytes)) limit >>= λ _. events_from 0 bytes
