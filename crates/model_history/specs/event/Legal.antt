-- Which events may come next.
use Rattle.std.specs.Prelude.{◌≡◌, ◌<◌, ◌≤◌, ◌+◌, ◌^◌, ◌==◌, ℕ, Bool, true, false, IsFalse, List, [], ◌∷◌, ◌++◌, length, take, filter, not, IfSome, Contains}
use Rattle.model_text.specs.text.Number.{AreBytes, four_bytes}
use Rattle.r9_event.specs.declared.event.event.Event.{Event}
use Rattle.r9_event.specs.declared.event.event.Event.TheVariants.{Begin, Msg, Take, End, Stop}

-- how many sessions have begun, those that live, in the order of their begin, and whether all has stopped
pub record Roll : Type 0 where
  pub begun : ℕ
  pub live : List ℕ
  pub stopped : Bool

abbrev pub no_sessions : Roll
no_sessions = record { begun = 0; live = []; stopped = false }

abbrev pub roll_after : Roll → Event → Roll
roll_after roll (Begin c) = record roll { begun = c; live = roll.live ++ c ∷ [] }
roll_after roll (Msg c bytes mark) = roll
roll_after roll (Take c) = roll
roll_after roll (End c) = record roll { live = filter (λ d. not (d == c)) roll.live }
roll_after roll Stop = record roll { stopped = true }

-- a whole message: 7 to 65,560 bytes, of which the first four are their number
pub record IsMessage (bytes : List ℕ) : Type 0 where
  pub long : 7 ≤ length bytes
  pub short : length bytes ≤ 65560
  pub sized : take 4 bytes ≡ four_bytes (length bytes)
  pub are_bytes : AreBytes bytes

-- Sessions are numbered from 1, and at most 1,024 live at once. What waits for a session may be taken once it has begun,
-- also after its end.
abbrev pub AllowedTo : Roll → Event → Type 0
AllowedTo roll (Begin c) = (c ≡ roll.begun + 1) × (c < 2 ^ 32) × (length roll.live < 1024)
AllowedTo roll (Msg c bytes mark) = Contains roll.live c × IsMessage bytes × IfSome mark (λ k. k ≤ 65535)
AllowedTo roll (Take c) = (1 ≤ c) × (c ≤ roll.begun)
AllowedTo roll (End c) = Contains roll.live c
AllowedTo roll Stop = Unit {0}

-- nothing comes after a Stop
abbrev pub Allowed : Roll → Event → Type 0
Allowed roll event = IsFalse roll.stopped × AllowedTo roll event

abbrev pub roll_from : Roll → List Event → Roll
roll_from roll [] = roll
roll_from roll (event ∷ events) = roll_from (roll_after roll event) events

-- the roll after a history
abbrev pub roll_of : List Event → Roll
roll_of events = roll_from no_sessions events

-- each event is allowed where it stands
abbrev pub AllowedFrom : Roll → List Event → Type 0
AllowedFrom roll [] = Unit {0}
AllowedFrom roll (event ∷ events) = Allowed roll event × AllowedFrom (roll_after roll event) events

abbrev pub IsLegal : List Event → Type 0
IsLegal events = AllowedFrom no_sessions events
