-- What a server may do in a turn: of the history before, what it is asked, what it answers, and the history after.
use Rattle.std.specs.Prelude.{◌≡◌, ◌≢◌, ◌≤◌, ◌<◌, ◌+◌, ◌-◌, ◌^◌, ◌⊎◌, ℕ, IsTrue, IsFalse, List, [], ◌∷◌, ◌++◌, length, Contains, Option, Some, None, IfSome}
use Rattle.r9_event.specs.declared.event.event.Event.{Event}
use Rattle.r9_event.specs.declared.event.event.Event.TheVariants as event
use Rattle.r9_event.specs.declared.event.event.Entry.{Entry}
use Rattle.r9_event.specs.declared.event.ask.Ask.{Ask}
use Rattle.r9_event.specs.declared.event.ask.Ask.TheVariants as ask
use Rattle.r9_event.specs.declared.event.ask.Answer.{Answer}
use Rattle.r9_event.specs.declared.event.ask.Answer.TheVariants.{Began, Went, Duplicate, Closed, Taken, Nothing, Over, Ended, Crowded, Memory}
use Rattle.model_history.specs.event.Legal.{Roll, Allowed, AllowedTo, roll_of}
use Rattle.model_history.specs.event.Journal.{events_of}
use Rattle.model_served.specs.session.Server.{Server, messages_of, IsOver}

abbrev pub roll_at : List Entry → Roll
roll_at history = roll_of (events_of history)

-- the event is allowed, and the history has it as one entry more
pub record Enters (event : Event) (before after : List Entry) : Type 0 where
  pub allowed : Allowed (roll_at before) event
  pub one_more : after ≡ before ++ record { number = length before + 1; event = event } ∷ []

-- all has not stopped, and the history is as it was
pub record Stays (before after : List Entry) : Type 0 where
  pub on : IsFalse (roll_at before).stopped
  pub same : after ≡ before

-- For want of memory nothing is done, or all stops.
abbrev pub GivesUp : (before after : List Entry) → Type 0
GivesUp before after = (after ≡ before) ⊎ Enters event.Stop before after

-- For want of memory all has stopped.
abbrev pub HasStopped : (before after : List Entry) → Type 0
HasStopped before after = ((after ≡ before) × IsTrue (roll_at before).stopped) ⊎ Enters event.Stop before after

-- so many sessions live or have begun that none may begin
abbrev pub IsCrowded : Roll → Type 0
IsCrowded roll = (length roll.live ≡ 1024) ⊎ (roll.begun ≡ 2 ^ 32 - 1)

module _ (s : Server) where
  abbrev Begins : (before : List Entry) → Answer → (after : List Entry) → Type 0
  Begins before (Began c) after = Enters (event.Begin c) before after
  Begins before Crowded after = Stays before after × IsCrowded (roll_at before)
  Begins before Memory after = GivesUp before after
  Begins before _ after = ⊥

  -- a mark says where memory ran out in the message, which it may only where the message may want memory
  abbrev TakesMessage : (c : ℕ) (bytes : List ℕ) (before : List Entry) → Answer → (after : List Entry) → Type 0
  TakesMessage c bytes before (Went msize) after =
      ((mark : Option ℕ) × Enters (event.Msg c bytes mark) before after × IfSome mark (s.cut (events_of before) c bytes)) × (s.closed (events_of after) c ≡ None)
      × (msize ≡ s.limit (messages_of c (events_of after)))
  TakesMessage c bytes before (Duplicate tag) after =
      ((mark : Option ℕ) × Enters (event.Msg c bytes mark) before after × IfSome mark (s.cut (events_of before) c bytes)) × (s.closed (events_of after) c ≡ Some tag)
  TakesMessage c bytes before Closed after = Stays before after × (AllowedTo (roll_at before) (event.Msg c bytes None) → ⊥)
  TakesMessage c bytes before Memory after = GivesUp before after
  TakesMessage c bytes before _ after = ⊥

  abbrev HandsOut : (c : ℕ) (before : List Entry) → Answer → (after : List Entry) → Type 0
  HandsOut c before (Taken bytes) after = Enters (event.Take c) before after × (bytes ≡ s.outbox (events_of before) c) × (bytes ≢ [])
  HandsOut c before Over after = Stays before after × (s.outbox (events_of before) c ≡ []) × IsOver s (events_of before) c
  HandsOut c before Nothing after = Stays before after × (s.outbox (events_of before) c ≡ []) × (IsOver s (events_of before) c → ⊥)
  HandsOut c before Memory after = GivesUp before after
  HandsOut c before _ after = ⊥

  abbrev Ends : (c : ℕ) (before : List Entry) → Answer → (after : List Entry) → Type 0
  Ends c before Ended after = Enters (event.End c) before after
  Ends c before Closed after = Stays before after × (Contains (roll_at before).live c → ⊥)
  Ends c before Memory after = HasStopped before after
  Ends c before _ after = ⊥

  abbrev pub May : (before : List Entry) → Ask → Answer → (after : List Entry) → Type 0
  May before ask.Begin answer after = Begins before answer after
  May before (ask.Msg c bytes) answer after = TakesMessage c bytes before answer after
  May before (ask.Look c) answer after = HandsOut c before answer after
  May before (ask.End c) answer after = Ends c before answer after

-- a value that keeps a history does only what the server may do
abbrev pub DoesOnly : Server → (acts : List Entry → Ask → Answer → List Entry → Type 0) → Type 0
DoesOnly s acts = (before after : List Entry) (ask : Ask) (answer : Answer) → acts before ask answer after → May s before ask answer after
