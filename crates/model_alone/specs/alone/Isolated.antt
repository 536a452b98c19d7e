-- What it means that a session alone with its window is isolated from all others.
use Rattle.std.specs.Prelude.{◌≡◌, ℕ, ◌==◌, List, filter, map, None}
use Rattle.r9_event.specs.declared.event.event.Event.{Event}
use Rattle.r9_event.specs.declared.event.event.Opening.{Opening}
use Rattle.r9_event.specs.declared.event.event.Reply.{Reply}
use Rattle.model_history.specs.event.Legal.{IsLegal}
use Rattle.model_world.specs.Replay.{replies}
use Rattle.model_alone.specs.alone.Own.{not_alone, own}
use Rattle.model_alone.specs.alone.Lone.{lone}

-- the bytes of the replies to a session, in order
abbrev pub replies_to : (c : ℕ) → List Reply → List (List ℕ)
replies_to c all = map (λ reply. reply.bytes) (filter (λ reply. reply.session == c) all)

-- A session that is alone with its window in a legal history gets the replies that a world of its own gives to what it is told.
abbrev pub IsIsolated : Opening → List Event → (c : ℕ) → Type 0
IsIsolated opening events c =
    IsLegal events → not_alone opening c events ≡ None → replies_to c (replies opening events) ≡ lone opening (own opening c events)
