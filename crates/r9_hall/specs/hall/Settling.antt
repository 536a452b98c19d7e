-- What answering reads that wait promises.
use Rattle.std.specs.Prelude.{◌≡◌, ◌++◌, ◌⊎◌, ℕ, false, List, [], ◌∷◌, Option, Some, None}
use Rattle.r9_event.specs.declared.event.event.Opening.{Opening}
use Rattle.r9_event.specs.declared.event.event.Reply.{Reply}
use Rattle.model_text.specs.text.Map.{lookup}
use Rattle.model_text.specs.map.Ascending.{Ascend}
use Rattle.model_files.specs.wire.Message.{R}
use Rattle.model_files.specs.wire.Spelling.{spelling_of_r}
use Rattle.model_world.specs.Session.{Session}
use Rattle.model_world.specs.Desktop.{Desktop}
use Rattle.model_world.specs.Links.{is_among}
use Rattle.model_world.specs.Sleeping.{may_wake}
use Rattle.model_world.specs.Waiting.{one_answered}
use Rattle.model_world.specs.Whole.{desktop_for}
use Rattle.model_world.specs.World.{World}
use Rattle.model_world.specs.Replay.{answered_in, settled}

abbrev pub world_of : Opening → List (ℕ × Session) → Desktop → World
world_of opening sessions desktop = record { opening = opening; desktop = desktop; sessions = sessions }

-- The earliest read of a session that can be answered was, and the session and the desktop are what that left; or none can be, and
-- they are as before.
abbrev pub IsLate : (c : ℕ) (session : Session) (desktop : Desktop) → Option Reply → (now : Session) (left : Desktop) → Type 0
IsLate c session desktop None now left = (one_answered (desktop_for c) session desktop ≡ None) × (now ≡ session) × (left ≡ desktop)
IsLate c session desktop (Some given) now left =
    (reply : R) × (one_answered (desktop_for c) session desktop ≡ Some (record { session = now; rest = left; reply = Some reply })) × (given ≡ record { session = c; bytes = spelling_of_r reply })

abbrev pub answered_by : World → (c : ℕ) → Option Session → Option (World × List Reply)
answered_by world c None = None
answered_by world c (Some session) = answered_in world c (one_answered (desktop_for c) session world.desktop) None

-- the world in which the earliest read of the session of a number was answered, with the reply; None where none can be
abbrev pub answered_at : World → ℕ → Option (World × List Reply)
answered_at world c = answered_by world c (lookup world.sessions c)

-- a read was answered, or none can be and the world is as before
abbrev pub IsNext : Option (World × List Reply) → (before : World) → Option Reply → (after : World) → Type 0
IsNext found before None after = (found ≡ None) × (after ≡ before)
IsNext found before (Some reply) after = found ≡ Some (after, reply ∷ [])

-- all reads were answered that can be, and the replies to them come after those that there were
pub record IsSettled (before : World) (replies : List Reply) (after : World) (now : List Reply) : Type 0 where
  pub world : after ≡ (settled before).0
  pub replies_are : now ≡ replies ++ (settled before).1

-- what is still to be answered of this world, behind these replies, makes what all makes of the first, behind the first replies
pub record GoesOn (first : World) (before : List Reply) (world : World) (replies : List Reply) : Type 0 where
  pub world_is : (settled world).0 ≡ (settled first).0
  pub replies_are : replies ++ (settled world).1 ≡ before ++ (settled first).1

-- ---- which sessions are asked

-- no read of the session of a number can be answered, if it lives
abbrev pub WaitsAt : List (ℕ × Session) → Desktop → ℕ → Type 0
WaitsAt sessions desktop c = (session : Session) → lookup sessions c ≡ Some session → one_answered (desktop_for c) session desktop ≡ None

-- these are in ascending order, and no read of another session can be answered
pub record AreAsked (sessions : List (ℕ × Session)) (desktop : Desktop) (asked : List ℕ) : Type 0 where
  pub ascending : Ascend asked
  pub others : (c : ℕ) → is_among asked c ≡ false → WaitsAt sessions desktop c

-- After an event of session c, in which something happened at these windows, a session need not be asked: no read of it waits
-- there, and if the event is its own none waits.
abbrev pub IsSkipped : ℕ → (windows : List ℕ) → ℕ × Session → Type 0
IsSkipped c windows entry = (may_wake entry.1 windows ≡ false) × (entry.0 ≡ c → entry.1.waiting ≡ [])

-- of these sessions in their order those that are asked, and the others need not be
abbrev pub AreWoken : ℕ → (windows : List ℕ) → (sessions : List (ℕ × Session)) → (asked : List ℕ) → Type 0
AreWoken c windows [] asked = asked ≡ []
AreWoken c windows (entry ∷ more) asked =
    ((later : List ℕ) × (asked ≡ entry.0 ∷ later) × AreWoken c windows more later) ⊎ (IsSkipped c windows entry × AreWoken c windows more asked)
