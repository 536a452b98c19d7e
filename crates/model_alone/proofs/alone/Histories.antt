-- A session is isolated where each event is answered alike: from one turn to all of a history.
use Rattle.std.proofs.Common.{◌≡◌, ◌+◌, ℕ, Bool, true, false, List, [], ◌∷◌, ◌++◌, Some, None, refl, sym, ap, ◌∙◌}
use Rattle.std.specs.Prelude.{◌==◌, filter, map, not, if◌then◌else◌}
use Rattle.r9_event.specs.declared.event.event.Event.{Event}
use Rattle.r9_event.specs.declared.event.event.Opening.{Opening}
use Rattle.r9_event.specs.declared.event.event.Reply.{Reply}
use Rattle.r9_event.specs.declared.event.own.Item.{Item}
use Rattle.model_history.specs.event.Legal.{Allowed, AllowedFrom, Roll, no_sessions, roll_after}
use Rattle.model_world.specs.World.{World, opened}
use Rattle.model_world.specs.Replay.{replies_from, step}
use Rattle.model_alone.specs.alone.Own.{Judged, Watched, first_reason, is_empty, judged, judged_from, lowest, steps_of, unseen}
use Rattle.model_alone.specs.alone.Lone.{LoneWorld, first_lone_world, lone, lone_from, lone_step}
use Rattle.model_alone.specs.alone.Isolated.{IsIsolated, replies_to}

-- the world of its own takes what the session is told of an event, if it is told anything
abbrev pub lone_after : LoneWorld → List Item → LoneWorld × List (List ℕ)
lone_after world items = if is_empty items then (world, []) else lone_step world items

-- One event is answered alike: the replies to the session are those of its own world, and the relation holds after it.
pub record IsFollowed (c : ℕ) (Rel : Roll → World → LoneWorld → Watched → Type 0) (roll : Roll) (world : World) (alone : LoneWorld) (seen : Watched) (event : Event) : Type 0 where
  pub replies : replies_to c (step world event).replies ≡ (lone_after alone (judged c world seen event).items).1
  pub rest : Rel (roll_after roll event) (step world event).world (lone_after alone (judged c world seen event).items).0 (judged c world seen event).seen

pub replies-append : (c : ℕ) (xs ys : List Reply) → replies_to c (xs ++ ys) ≡ replies_to c xs ++ replies_to c ys
replies-append c [] ys = refl
replies-append c (x ∷ xs) ys = by (x.session == c) (replies-append c xs ys)
  where
    by : (is : Bool) → replies_to c (xs ++ ys) ≡ replies_to c xs ++ replies_to c ys
        → map (λ reply. reply.bytes) (if is then x ∷ filter (λ reply. reply.session == c) (xs ++ ys) else filter (λ reply. reply.session == c) (xs ++ ys))
        ≡ map (λ reply. reply.bytes) (if is then x ∷ filter (λ reply. reply.session == c) xs else filter (λ reply. reply.session == c) xs) ++ replies_to c ys
    by true more = ap (λ (rest : List (List ℕ)). x.bytes ∷ rest) more
    by false more = more

-- a step that tells nothing is none
lone-step : (alone : LoneWorld) (j : Judged) (more : List Judged)
    → lone_from alone (steps_of (j ∷ more)) ≡ (lone_after alone j.items).1 ++ lone_from (lone_after alone j.items).0 (steps_of more)
lone-step alone j more = by (is_empty j.items)
  where
    by : (nothing : Bool)
        → lone_from alone (if not nothing then j.items ∷ steps_of more else steps_of more)
        ≡ (if nothing then (alone, []) else lone_step alone j.items).1 ++ lone_from (if nothing then (alone, []) else lone_step alone j.items).0 (steps_of more)
    by true = refl
    by false = refl

-- the event gives no reason, and those after it give none
no-reason : (place : ℕ) (j : Judged) (more : List Judged) → first_reason place (j ∷ more) ≡ None → (j.reasons ≡ []) × (first_reason (place + 1) more ≡ None)
no-reason place j more none = by j.reasons none
  where
    by : (reasons : List ℕ) → (if is_empty reasons then first_reason (place + 1) more else Some (place, lowest reasons)) ≡ None
        → (reasons ≡ []) × (first_reason (place + 1) more ≡ None)
    by [] none = (refl, none)
    by (n ∷ ns) none = absurd cc

module _ (c : ℕ) (Rel : Roll → World → LoneWorld → Watched → Type 0)
    (follows : (roll : Roll) (world : World) (alone : LoneWorld) (seen : Watched) (event : Event) → Rel roll world alone seen → Allowed roll event
    → (judged c world seen event).reasons ≡ [] → IsFollowed c Rel roll world alone seen event) where
  from_there : (events : List Event) (roll : Roll) (world : World) (alone : LoneWorld) (seen : Watched) (place : ℕ) → Rel roll world alone seen → AllowedFrom roll events
      → first_reason place (judged_from c world seen events) ≡ None
      → replies_to c (replies_from world events) ≡ lone_from alone (steps_of (judged_from c world seen events))
  from_there [] roll world alone seen place rel legal none = refl
  from_there (event ∷ events) roll world alone seen place rel legal none =
      let j = judged c world seen event in
      let reasons = no-reason place j (judged_from c (step world event).world j.seen events) none in
      let one = follows roll world alone seen event rel legal.0 reasons.0 in
      let further = from_there events (roll_after roll event) (step world event).world (lone_after alone j.items).0 j.seen (place + 1) one.rest legal.1 reasons.1 in
      replies-append c (step world event).replies (replies_from (step world event).world events)
      ∙ ap (λ (first : List (List ℕ)). first ++ replies_to c (replies_from (step world event).world events)) one.replies
      ∙ ap (λ (rest : List (List ℕ)). (lone_after alone j.items).1 ++ rest) further
      ∙ sym (lone-step alone j (judged_from c (step world event).world j.seen events))

  -- Where some relation between the server's world and the session's own holds at the start, and each event that gives no reason is
  -- answered alike under it, the session is isolated in each history.
  pub isolated_by : (opening : Opening) → Rel no_sessions (opened opening) (first_lone_world opening) unseen → (events : List Event) → IsIsolated opening events c
  unfolding lone
  isolated_by opening start events legal none = from_there events no_sessions (opened opening) (first_lone_world opening) unseen 1 start legal none
