-- What the record of a history gives.
use Rattle.std.specs.Prelude.{◌≡◌, ◌==◌, ℕ, List, filter, Some, None}
use Rattle.r9_event.specs.declared.event.event.Event.{Event}
use Rattle.r9_event.specs.declared.event.event.Opening.{Opening}
use Rattle.r9_event.specs.declared.event.event.Reply.{Reply}
use Rattle.model_history.specs.records.Record.{IsRecord}
use Rattle.model_world.specs.Replay.{replies}
use Rattle.model_alone.specs.alone.Lone.{lone}
use Rattle.model_alone.specs.alone.Own.{not_alone, own}
use Rattle.r9_serve.specs.alone.Answers.{replies_as}

-- The text is the record of one history. The session is alone with its window in it, and these are the replies that a world of its own gives
-- to what it is told; they are the replies to it in the history, too.
pub record AreLoneRepliesTo (opening : Opening) (c : ℕ) (text : List ℕ) (given : List Reply) : Type 0 where
  pub events : List Event
  pub is_record : IsRecord text events
  pub one : (others : List Event) → IsRecord text others → events ≡ others
  pub alone : not_alone opening c events ≡ None
  pub are_lone : given ≡ replies_as c (lone opening (own opening c events))
  pub are_its : given ≡ filter (λ reply. reply.session == c) (replies opening events)

-- The text is the record of one history, in which the session is not alone from the entry of this number on, for this reason.
pub record IsNotAloneIn (opening : Opening) (c : ℕ) (text : List ℕ) (entry reason : ℕ) : Type 0 where
  pub events : List Event
  pub is_record : IsRecord text events
  pub one : (others : List Event) → IsRecord text others → events ≡ others
  pub is : not_alone opening c events ≡ Some (entry, reason)
