-- What a session is answered that is alone with its window.
use Rattle.std.specs.Prelude.{◌≡◌, ◌==◌, ℕ, List, map, filter, Option, Some, None}
use Rattle.r9_event.specs.declared.event.event.Event.{Event}
use Rattle.r9_event.specs.declared.event.event.Opening.{Opening}
use Rattle.r9_event.specs.declared.event.event.Reply.{Reply}
use Rattle.model_world.specs.Replay.{replies}
use Rattle.model_alone.specs.alone.Lone.{lone}
use Rattle.model_alone.specs.alone.Own.{not_alone, own}
use Rattle.r9_serve.specs.replay.Replays.{HadRecord}

-- replies to a session
abbrev pub replies_as : (c : ℕ) → List (List ℕ) → List Reply
replies_as c all = map (λ bytes. record { session = c; bytes = bytes }) all

-- The input, where it is told, had the record of one history. The session is alone with its window in it, and these are the replies that a
-- world of its own gives to what it is told; they are the replies to it in the history, too.
pub record AreLoneReplies (opening : Opening) (c : ℕ) (left : Option (List ℕ)) (given : List Reply) : Type 0 where
  pub events : List Event
  pub had : HadRecord left events
  pub alone : not_alone opening c events ≡ None
  pub are_lone : given ≡ replies_as c (lone opening (own opening c events))
  pub are_its : given ≡ filter (λ reply. reply.session == c) (replies opening events)

-- The input, where it is told, had the record of one history, in which the session is not alone from the entry of this number on, for this
-- reason.
pub record WasNotAlone (opening : Opening) (c : ℕ) (left : Option (List ℕ)) (entry reason : ℕ) : Type 0 where
  pub events : List Event
  pub had : HadRecord left events
  pub is : not_alone opening c events ≡ Some (entry, reason)
