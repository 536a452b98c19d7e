-- A history and one event more.
use Rattle.std.proofs.Common.{◌≡◌, List, [], ◌∷◌, ◌++◌, refl}
use Rattle.r9_event.specs.declared.event.event.Event.{Event}
use Rattle.model_history.specs.event.Legal.{Roll, Allowed, AllowedFrom, roll_after, roll_from}

pub roll_from-push : (roll : Roll) (events : List Event) (event : Event) → roll_from roll (events ++ event ∷ []) ≡ roll_after (roll_from roll events) event
roll_from-push roll [] event = refl
roll_from-push roll (e ∷ events) event = roll_from-push (roll_after roll e) events event

pub AllowedFrom-push : (roll : Roll) (events : List Event) (event : Event) → AllowedFrom roll events → Allowed (roll_from roll events) event → AllowedFrom roll (events ++ event ∷ [])
AllowedFrom-push roll [] event legal allowed = (allowed, tt)
AllowedFrom-push roll (e ∷ events) event legal allowed = (legal.0, AllowedFrom-push (roll_after roll e) events event legal.1 allowed)
