-- What an event makes of the sessions and of what they share.
use Rattle.std.specs.Prelude.{◌≡◌, ◌≤◌, ℕ, Bool, true, false, List, length, Option, Some, None, IfSome, IsSome}
use Rattle.r9_event.specs.declared.event.event.Event.{Event}
use Rattle.r9_event.specs.declared.event.event.Event.TheVariants.{Msg}
use Rattle.r9_event.specs.declared.event.event.Opening.{Opening}
use Rattle.r9_event.specs.declared.event.event.Did.{Did}
use Rattle.model_text.specs.text.Map.{with}
use Rattle.model_draw.specs.draw.Act.{no_memory}
use Rattle.model_world.specs.Session.{Session}
use Rattle.model_world.specs.Fids.{cleared}
use Rattle.model_world.specs.Answer.{answer, taking}
use Rattle.model_world.specs.Cut.{IsCutMessage, wants_for}
use Rattle.model_world.specs.Refusal.{IsRefused}
use Rattle.model_world.specs.Desktop.{Desktop}
use Rattle.model_world.specs.Sleeping.{written_at}
use Rattle.model_world.specs.Whole.{desktop_for}
use Rattle.model_world.specs.World.{World}
use Rattle.model_world.specs.Replay.{closing_tag, reply_to, step, turned}
use Rattle.r9_files.specs.around.Words.{mark_after}
use Rattle.r9_desktop.specs.World.{desktop_of}
use Rattle.r9_hall.specs.declared.hall.sessions.Made.{Made}
use Rattle.r9_hall.specs.declared.hall.sessions.Own.{Own}
use Rattle.r9_hall.specs.declared.hall.sessions.Sessions.{Sessions}

-- A message of a session was answered: what it gave is its reply, if it has one, and the session and the desktop are what the
-- message left, with the mark with which it stands in the history.
pub record IsAnswered (c : ℕ) (session : Session) (desktop : Desktop) (bytes : List ℕ) (mark : Option ℕ) (own : Own) (now : Session) (left : Desktop) : Type 0 where
  pub replies_are : own.replies ≡ reply_to c (answer (desktop_for c) session desktop bytes (mark_after mark own.short)).reply
  pub session_is : now ≡ (answer (desktop_for c) session desktop bytes (mark_after mark own.short)).session
  pub left_is : left ≡ (answer (desktop_for c) session desktop bytes (mark_after mark own.short)).rest
  pub closed_is : own.closed ≡ closing_tag bytes (taking session bytes)
  pub cause : IfSome own.short (λ k. IsCutMessage (desktop_for c) (wants_for c) session desktop bytes mark k)
  pub told : IsRefused no_memory (answer (desktop_for c) session desktop bytes (mark_after mark own.short)).reply → IsSome own.short
  pub wrote_is : own.wrote ≡ written_at session bytes

-- it gives nothing where the session does not live
abbrev pub IsServed : (c : ℕ) → Option Session → (before : List (ℕ × Session)) (desktop : Desktop) (bytes : List ℕ) (mark : Option ℕ) (given : Option Own) (after : List (ℕ × Session)) (left : Desktop) → Type 0
IsServed c None before desktop bytes mark None after left = (after ≡ before) × (left ≡ desktop)
IsServed c None before desktop bytes mark (Some own) after left = ⊥
IsServed c (Some session) before desktop bytes mark None after left = ⊥
IsServed c (Some session) before desktop bytes mark (Some own) after left =
    (now : Session) × (after ≡ with before c now) × IsAnswered c session desktop bytes mark own now left

-- all that goes with the fids of a session that lives has gone
abbrev pub IsLeft : (c : ℕ) → Option Session → (desktop : Desktop) → Bool → (left : Desktop) → Type 0
IsLeft c None desktop true left = ⊥
IsLeft c None desktop false left = left ≡ desktop
IsLeft c (Some session) desktop true left = left ≡ (cleared (desktop_for c) session desktop).1
IsLeft c (Some session) desktop false left = ⊥

-- the world of sessions and what they share
abbrev pub world_with : Opening → Sessions → World
world_with opening s = record { opening = opening; desktop = desktop_of s.desktop; sessions = s.live.entries }

-- a message has a size, a kind and a tag
abbrev pub IsWhole : Event → Type 0
IsWhole (Msg c bytes mark) = 7 ≤ length bytes
IsWhole _ = Unit {0}

-- an event was made under an opening, and gave this; its turn has still to end
pub record IsMade (opening : Opening) (before : Sessions) (event : Event) (made : Made) (after : Sessions) : Type 0 where
  pub step_is : step (world_with opening before) event ≡ turned (world_with opening after) made.replies made.closed

-- what all sessions have after an event, and what it gave, are those of a step of the world under an opening
pub record IsTurn (opening : Opening) (before : Sessions) (event : Event) (did : Did) (after : Sessions) : Type 0 where
  pub world : (step (world_with opening before) event).world ≡ world_with opening after
  pub replies_are : (step (world_with opening before) event).replies ≡ did.replies
  pub notes_are : (step (world_with opening before) event).notes ≡ did.notes
  pub closed_is : (step (world_with opening before) event).closed ≡ did.closed
