-- What an event makes of a hall, and what an act does.
use Rattle.std.specs.Prelude.{◌≡◌, ◌≤◌, ◌+◌, ◌++◌, ℕ, Bool, true, List, [], ◌∷◌, Option, Some, None, IfSome, IsSome, MatchBool}
use Rattle.r9_event.specs.declared.event.event.Event.{Event}
use Rattle.r9_event.specs.declared.event.event.Event.TheVariants.{Stop}
use Rattle.r9_event.specs.declared.event.event.Entry.{Entry}
use Rattle.r9_event.specs.declared.event.event.Did.{Did}
use Rattle.r9_event.specs.declared.event.ask.Ask.{Ask}
use Rattle.r9_event.specs.declared.event.ask.Answer.{Answer}
use Rattle.r9_event.specs.declared.event.ask.Answer.TheVariants.{Went, Duplicate}
use Rattle.r9_lock.specs.declared.chronicle.Acted.{Acted}
use Rattle.model_history.specs.event.Journal.{events_of}
use Rattle.model_served.specs.session.Acts.{May}
use Rattle.model_served.specs.served.Served.{served}
use Rattle.model_alone.specs.alone.Uses.{event_used}
use Rattle.model_world.specs.Cut.{IsCutEvent, IsWantingEvent}
use Rattle.model_world.specs.Replay.{marked, replay, step}
use Rattle.model_world.specs.Session.{Session}
use Rattle.r9_hall.specs.hall.HallView.{HallValue, AllowedNext, OfHistories, StandsFor, StandsForMore, StandsOn}

-- An event was made and gave this: it is one entry more, with the mark that was told, and what it gave is what its step of the world
-- gives, what it used where the hall watches. A mark is told only of a write of an open `data` file, where its own mark took effect or the message may want memory; and a
-- reply that is the refusal of want of memory tells one.
pub record IsMadeOf (before : HallValue) (event : Event) (did : Did) (after : HallValue) : Type 0 where
  pub entered : StandsForMore before (marked event did.short) after
  pub allowed : AllowedNext before (marked event did.short)
  pub replies : OfHistories before (λ events. did.replies ≡ (step (replay before.opening events) (marked event did.short)).replies)
  pub notes : OfHistories before (λ events. did.notes ≡ (step (replay before.opening events) (marked event did.short)).notes)
  pub uses : before.world.watches ≡ true → OfHistories before (λ events. did.uses ≡ event_used (replay before.opening events) (step (replay before.opening events) (marked event did.short)).world (marked event did.short))
  pub closed : OfHistories before (λ events. did.closed ≡ (step (replay before.opening events) (marked event did.short)).closed)
  pub short : OfHistories before (λ events. IfSome did.short (λ k. IsCutEvent (replay before.opening events) event k))
  pub told : OfHistories before (λ events. IsWantingEvent (replay before.opening events) (marked event did.short) → IsSome did.short)

-- an act makes of each history that a hall stands for what a server may
abbrev pub IsAct : (before : HallValue) → Ask → Acted Answer → (after : HallValue) → Type 0
IsAct h ask acted now =
    (before : List Entry) → StandsFor h before
    → (after : List Entry) × StandsFor now after × May (served h.opening) before ask acted.answer after
    × MatchBool acted.entered ((entry : Entry) × (after ≡ before ++ entry ∷ [])) (after ≡ before)

-- What is counted rises by at most what the entry costs that an act made of a history that the hall stood for, and by nothing where it
-- made none.
abbrev pub IsCounted : (before : HallValue) → Acted Answer → (after : HallValue) → (old new : ℕ) → Type 0
IsCounted h acted now old new =
    (before : List Entry) → StandsFor h before
    → MatchBool acted.entered ((entry : Entry) × StandsFor now (before ++ entry ∷ []) × (new ≤ old + (step (replay h.opening (events_of before)) entry.event).cost)) (new ≡ old)

-- a Stop was made, or nothing
abbrev pub HasGivenUp : (before after : HallValue) → (entered : Bool) → Type 0
HasGivenUp before after entered = MatchBool entered (StandsForMore before Stop after) (StandsOn before after)

-- a session that has begun gets no more messages: it does not live, or is closed
abbrev pub IsDone : Option Session → Type 0
IsDone None = Unit {0}
IsDone (Some session) = IsSome session.closed

abbrev pub answer_by : (closed : Option ℕ) (msize : ℕ) → Answer
answer_by None msize = Went msize
answer_by (Some tag) msize = Duplicate tag

-- the answer to a message of a session that was taken, if it lives
abbrev pub IsHeard : Option Session → Answer → Type 0
IsHeard None answer = Unit {0}
IsHeard (Some session) answer = answer ≡ answer_by session.closed session.msize
