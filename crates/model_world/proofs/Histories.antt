-- A history and one event more.
use Rattle.std.proofs.Common.{◌≡◌, ℕ, List, [], ◌∷◌, ◌++◌, Option, Some, None, refl, ◌∙◌}
use Rattle.r9_event.specs.declared.event.event.Event.{Event}
use Rattle.r9_event.specs.declared.event.event.Event.TheVariants.{Begin, Msg, Take, End, Stop}
use Rattle.model_text.specs.text.Map.{lookup, without}
use Rattle.model_world.specs.Session.{Session}
use Rattle.model_world.specs.Whole.{desktop_for}
use Rattle.model_world.specs.World.{World}
use Rattle.model_world.specs.Fids.{cleared}
use Rattle.model_world.specs.Answer.{answer}
use Rattle.model_world.specs.Replay.{step, served, ended, with_left, waiting_in, world_from, waiting_from, waiting_after}
use Rattle.model_world.proofs.Settling.{settled_opening}

pub world_from-push : (world : World) (events : List Event) (event : Event) → world_from world (events ++ event ∷ []) ≡ (step (world_from world events) event).world
world_from-push world [] event = refl
world_from-push world (e ∷ events) event = world_from-push (step world e).world events event

pub waiting_from-push : (world : World) (events : List Event) (event : Event) (c : ℕ) (waiting : List ℕ)
    → waiting_from world (events ++ event ∷ []) c waiting ≡ waiting_after c (waiting_from world events c waiting) event (step (world_from world events) event).replies
waiting_from-push world [] event c waiting = refl
waiting_from-push world (e ∷ events) event c waiting =
    waiting_from-push (step world e).world events event c (waiting_after c waiting e (step world e).replies)

-- each event leaves the opening
served_opening : (world : World) (c : ℕ) (bytes : List ℕ) (mark : Option ℕ) (session : Option Session) → (served world c bytes mark session).world.opening ≡ world.opening
served_opening world c bytes mark None = refl
served_opening world c bytes mark (Some session) =
    let after = with_left world c (answer (desktop_for c) session world.desktop bytes mark) in settled_opening (waiting_in after) after

ended_opening : (world : World) (c : ℕ) (session : Option Session) → (ended world c session).world.opening ≡ world.opening
ended_opening world c None = refl
ended_opening world c (Some session) =
    let after = record world { desktop = (cleared (desktop_for c) session world.desktop).1; sessions = without world.sessions c } in settled_opening (waiting_in after) after

step_opening : (world : World) (event : Event) → (step world event).world.opening ≡ world.opening
step_opening world (Begin c) = refl
step_opening world (Msg c bytes mark) = served_opening world c bytes mark (lookup world.sessions c)
step_opening world (Take c) = refl
step_opening world (End c) = ended_opening world c (lookup world.sessions c)
step_opening world Stop = refl

pub world_from-opening : (world : World) (events : List Event) → (world_from world events).opening ≡ world.opening
world_from-opening world [] = refl
world_from-opening world (e ∷ events) = world_from-opening (step world e).world events ∙ step_opening world e
