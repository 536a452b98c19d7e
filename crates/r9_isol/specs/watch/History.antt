-- What is watched of a session in a whole history.
use Rattle.std.specs.Prelude.{◌≡◌, ◌+◌, ℕ, List, [], ◌∷◌, ◌++◌, length, Some, None}
use Rattle.r9_event.specs.declared.event.event.Did.{Did}
use Rattle.r9_event.specs.declared.event.event.Entry.{Entry}
use Rattle.r9_event.specs.declared.event.event.Event.{Event}
use Rattle.r9_event.specs.declared.event.event.Opening.{Opening}
use Rattle.model_world.specs.World.{World, opened}
use Rattle.model_world.specs.Replay.{marked, replay, step}
use Rattle.model_alone.specs.alone.Own.{Judged, Watched, judged, lowest, not_alone, own, unseen}
use Rattle.model_alone.specs.alone.Uses.{event_used}
use Rattle.r9_isol.specs.watch.Watching.{Watching, after_judged, shown}

-- what is known of a session after events
abbrev pub seen_from : (c : ℕ) → World → Watched → List Event → Watched
seen_from c world seen [] = seen
seen_from c world seen (event ∷ events) = seen_from c (step world event).world (judged c world seen event).seen events

-- what a history makes of the watch of a session
abbrev pub watched_in : Opening → (c : ℕ) → List Event → Watching
watched_in opening c events = record { session = c; seen = seen_from c (opened opening) unseen events; items = own opening c events }

-- what the next event shows
abbrev pub next_judged : Opening → (c : ℕ) → List Event → Event → Judged
next_judged opening c events event = judged c (replay opening events) (seen_from c (opened opening) unseen events) event

-- An entry, as it then stands in the history, gave this after the history.
pub record IsNextEntry (opening : Opening) (events : List Event) (entry : Entry) (did : Did) : Type 0 where
  pub uses_are : did.uses ≡ event_used (replay opening events) (step (replay opening events) (marked entry.event did.short)).world (marked entry.event did.short)
  pub notes_are : did.notes ≡ (step (replay opening events) (marked entry.event did.short)).notes
  pub replies_are : did.replies ≡ (step (replay opening events) (marked entry.event did.short)).replies

-- An entry shows to the watch of a history what it shows by the definition.
abbrev pub ShowsTheSame : Opening → (c : ℕ) → List Event → Entry → Did → Type 0
ShowsTheSame opening c events entry did =
    IsNextEntry opening events entry did → shown (watched_in opening c events) entry did ≡ next_judged opening c events (marked entry.event did.short)

-- One that gives no reason goes on with the history.
pub record GoesOn (opening : Opening) (c : ℕ) (events : List Event) (event : Event) : Type 0 where
  pub watched : after_judged (watched_in opening c events) (next_judged opening c events event) ≡ watched_in opening c (events ++ event ∷ [])
  pub alone : not_alone opening c (events ++ event ∷ []) ≡ None

-- One that gives reasons is the first that does, however the history goes on.
abbrev pub Ends : Opening → (c : ℕ) → List Event → Event → Type 0
Ends opening c events event = (more : List Event) → not_alone opening c (events ++ event ∷ more) ≡ Some (length events + 1, lowest (next_judged opening c events event).reasons)
