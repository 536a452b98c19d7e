-- Steps of a reader and of a writer.
use Rattle.std.specs.Prelude.{◌≡◌, ◌≢◌, ◌≤◌, ◌^◌, ◌/◌, ◌⊎◌, ℕ, List, [], ◌++◌, length, Contains, Bool, true, false, All, Option, Some, None, Result, Ok, Err, IfSome}
use Rattle.std.specs.List.{concat}
use Rattle.r9_event.specs.declared.event.event.Event.{Event}
use Rattle.r9_event.specs.declared.event.event.Event.TheVariants as event
use Rattle.r9_event.specs.declared.event.event.Entry.{Entry}
use Rattle.r9_event.specs.declared.event.ask.Ask.TheVariants as ask
use Rattle.r9_event.specs.declared.event.ask.Answer.TheVariants as answer
use Rattle.r9_lock.specs.Passes.{Known}
use Rattle.model_files.specs.frame.Frame.{Framing}
use Rattle.model_files.specs.frame.Stream.{messages}
use Rattle.model_history.specs.event.Journal.{events_of}
use Rattle.model_served.specs.session.Server.{Server, messages_of, takes, is_msg, is_take}
use Rattle.r9_attend.specs.declared.attend.ends.ReadEnd.{ReadEnd}
use Rattle.r9_attend.specs.declared.attend.ends.ReadEnd.TheVariants.{Ended, Cut, Duplicate, ReadFault, Closed, Memory, Spent, Crowded}
use Rattle.r9_attend.specs.declared.attend.ends.WriteEnd.{WriteEnd}
use Rattle.r9_attend.specs.declared.attend.ends.WriteEnd.TheVariants as written
use Rattle.r9_outside.specs.outside.Sink.{Appends, AppendsPart}
use Rattle.r9_attend.specs.attend.Passes.{GoesOn, made_since, IsOwn, Turned, NotTurned}
use Rattle.r9_outside.specs.outside.Count.{Rose}
use Rattle.r9_attend.specs.attend.Sessions.{Reads, EndsAt, IsRead, IsWritten, IsReaders, IsWriters, HasEnded}

-- a message was sent
abbrev pub IsSent : Server → (c : ℕ) → (bytes : List ℕ) → Result ℕ ReadEnd → (old new : Known Entry) → Type 0
IsSent s c bytes (Ok msize) old new = Turned s (ask.Msg c bytes) (answer.Went msize) old new
IsSent s c bytes (Err (Duplicate tag)) old new = Turned s (ask.Msg c bytes) (answer.Duplicate tag) old new
IsSent s c bytes (Err Closed) old new = Turned s (ask.Msg c bytes) answer.Closed old new
IsSent s c bytes (Err Memory) old new = Turned s (ask.Msg c bytes) answer.Memory old new
IsSent s c bytes (Err (Spent count)) old new = NotTurned count old new
IsSent s c bytes (Err _) old new = ⊥

-- messages and the bytes behind them are the front of a stream, and its messages are these and those behind them
pub record Cuts (limit : List (List ℕ) → ℕ) (sent : List (List ℕ)) (held bytes : List ℕ) : Type 0 where
  pub joined : concat sent ++ held ≡ bytes
  pub goes_on : (more : List ℕ) → messages limit [] (bytes ++ more) ≡ sent ++ messages limit sent (held ++ more)

-- a reader in a history: the framer holds what stands behind the messages of session c, which is open
pub record SoFar (s : Server) (c : ℕ) (framer : Framing) (bytes : List ℕ) (history : List Event) : Type 0 where
  pub closed : s.closed history c ≡ None
  pub limit : framer.limit ≡ s.limit (messages_of c history)
  pub cuts : Cuts s.limit (messages_of c history) framer.held bytes

-- a reader between two steps
pub record Reading (s : Server) (c : ℕ) (old now : Known Entry) (framer : Framing) (left_old left : Option (List ℕ)) : Type 0 where
  pub pass : GoesOn old now
  pub made : All (λ m. is_msg c m.1.event ≡ true) (made_since old now)
  pub small : framer.limit ≤ 65560
  pub fine : framer.bad ≡ None
  pub bytes : List ℕ
  pub reads : Reads left_old bytes left
  pub so_far : (history : List Entry) → IsOwn (is_msg c) now.seen (made_since old now) history → SoFar s c framer bytes (events_of history)

-- A source was read from once. What came was fed, or the reader ends.
abbrev pub IsFed : (framer : Framing) (left : Option (List ℕ)) (bytes : List ℕ) → Option ReadEnd → (after : Framing) → Type 0
IsFed framer left bytes None after = after ≡ record framer { held = framer.held ++ bytes }
IsFed framer left bytes (Some Ended) after = (bytes ≡ []) × (framer.held ≡ []) × IfSome left (λ all. all ≡ [])
IsFed framer left bytes (Some (Cut n)) after = (bytes ≡ []) × (n ≡ length framer.held) × (framer.held ≢ []) × IfSome left (λ all. all ≡ [])
IsFed framer left bytes (Some ReadFault) after = bytes ≡ []
IsFed framer left bytes (Some Memory) after = Unit {0}
IsFed framer left bytes (Some _) after = ⊥

pub record IsFilled (framer : Framing) (left_old : Option (List ℕ)) (result : Option ReadEnd) (after : Framing) (left : Option (List ℕ)) : Type 0 where
  pub bytes : List ℕ
  pub reads : Reads left_old bytes left
  pub fed : IsFed framer left_old bytes result after

-- what the answers of turns say
abbrev pub IsTold : Server → (c : ℕ) → ReadEnd → Known Entry → Type 0
IsTold s c Closed pass = Contains (events_of pass.seen) (event.End c)
IsTold s c (Spent count) pass = (2 ^ 62 ≤ count) × (count / 2 ≤ pass.least)
IsTold s c Crowded pass = ⊥
IsTold s c _ pass = Unit {0}

-- ---- the writer

-- what waits was asked for
abbrev pub IsLooked : Server → (c : ℕ) → Result (Option (List ℕ)) WriteEnd → (old new : Known Entry) → Type 0
IsLooked s c (Ok (Some bytes)) old new = Turned s (ask.Look c) (answer.Taken bytes) old new
IsLooked s c (Ok None) old new = Turned s (ask.Look c) answer.Nothing old new
IsLooked s c (Err written.Done) old new = Turned s (ask.Look c) answer.Over old new
IsLooked s c (Err written.Memory) old new = Turned s (ask.Look c) answer.Memory old new
IsLooked s c (Err (written.Spent count)) old new = NotTurned count old new
IsLooked s c (Err _) old new = ⊥

-- a piece was put and flushed, or a front of it was put
abbrev pub IsPut : (before : Option (List ℕ)) (piece : List ℕ) (after : Option (List ℕ)) (unflushed : Bool) → Option WriteEnd → Type 0
IsPut before piece after unflushed None = Appends before piece after × (unflushed ≡ false)
IsPut before piece after unflushed (Some written.WriteFault) = AppendsPart before piece after
IsPut before piece after unflushed (Some written.Memory) = AppendsPart before piece after
IsPut before piece after unflushed (Some _) = ⊥

-- a writer between two steps: in a history the sink got what was taken for session c
pub record Writing (s : Server) (c : ℕ) (old now : Known Entry) (held_old held : Option (List ℕ)) : Type 0 where
  pub pass : GoesOn old now
  pub made : All (λ m. is_take c m.1.event ≡ true) (made_since old now)
  pub so_far : (history : List Entry) → IsOwn (is_take c) now.seen (made_since old now) history → Appends held_old (takes s c (events_of history)) held

-- what the answers of turns say of a writer's end; Crowded comes only where no session began
abbrev pub IsSpent : WriteEnd → Known Entry → Type 0
IsSpent (written.Spent count) pass = (2 ^ 62 ≤ count) × (count / 2 ≤ pass.least)
IsSpent written.Crowded pass = ⊥
IsSpent _ pass = Unit {0}

-- A writer gave its session up: the session was ended, where it lived, and what still waited for it was taken and went nowhere.
pub record HasGivenUp (s : Server) (c : ℕ) (old new : Known Entry) : Type 0 where
  pub ended : Known Entry
  pub on : GoesOn old ended
  pub ending : All (λ m. (m.1.event ≡ event.End c) ⊎ (m.1.event ≡ event.Stop)) (made_since old ended)
  pub goes : GoesOn ended new
  pub found : Result (Option (List ℕ)) WriteEnd
  pub looked : IsLooked s c found ended new

-- ---- all that a reader and a writer leave

pub record HasRead {I : Type 0} (left : I → Option (List ℕ)) (faults : I → ℕ) (s : Server) (c : ℕ) (end : ReadEnd) (old new : Known Entry) (input_old input : I) : Type 0 where
  pub pass : GoesOn old new
  pub made : All (IsReaders c) (made_since old new)
  pub alone : end ≡ Closed → All (λ m. (is_msg c m.1.event ≡ true) ⊎ (m.1.event ≡ event.Stop)) (made_since old new)
  pub ended : HasEnded c new
  pub told : IsTold s c end new
  pub failed : end ≡ ReadFault → Rose (faults input_old) (faults input)
  pub counted : faults input_old ≤ faults input
  pub steady : (end ≡ ReadFault → ⊥) → faults input ≡ faults input_old
  pub bytes : List ℕ
  pub reads : Reads (left input_old) bytes (left input)
  pub at_end : EndsAt end (left input_old) bytes
  pub read : (history : List Entry) → IsOwn (is_msg c) new.seen (made_since old new) history → IsRead s c end bytes (events_of history)

pub record HasWritten {O : Type 0} (held : O → Option (List ℕ)) (unflushed : O → Bool) (faults : O → ℕ) (s : Server) (c : ℕ) (end : WriteEnd) (old new : Known Entry) (output_old output : O) : Type 0 where
  pub pass : GoesOn old new
  pub made : All (IsWriters c) (made_since old new)
  pub ends : (end ≡ written.WriteFault) ⊎ (end ≡ written.Memory) ⊎ All (λ m. (is_take c m.1.event ≡ true) ⊎ (m.1.event ≡ event.Stop)) (made_since old new)
  pub spent : IsSpent end new
  pub failed : end ≡ written.WriteFault → Rose (faults output_old) (faults output)
  pub counted : faults output_old ≤ faults output
  pub flushed : end ≡ written.Done → (unflushed output ≡ false) ⊎ (output ≡ output_old)
  pub out : (history : List Entry) → IsOwn (is_take c) new.seen (made_since old new) history → IsWritten s c end (held output_old) (held output) (events_of history)

-- ---- the begin

-- no session began, and both ends say why
abbrev pub NotBegun : Server → ReadEnd → WriteEnd → (old new : Known Entry) → Type 0
NotBegun s Crowded written.Crowded old new = Turned s ask.Begin answer.Crowded old new
NotBegun s Memory written.Memory old new = Turned s ask.Begin answer.Memory old new
NotBegun s (Spent count) (written.Spent same) old new = (same ≡ count) × NotTurned count old new
NotBegun s _ _ old new = ⊥

abbrev pub IsBegun : Server → Result ℕ (ReadEnd × WriteEnd) → (old new : Known Entry) → Type 0
IsBegun s (Ok c) old new = Turned s ask.Begin (answer.Began c) old new
IsBegun s (Err ends) old new = NotBegun s ends.0 ends.1 old new

-- session c began in a turn of the pass, which then went on
pub record HasBegun (s : Server) (c : ℕ) (old new : Known Entry) : Type 0 where
  pub begun : Known Entry
  pub turn : Turned s ask.Begin (answer.Began c) old begun
  pub on : GoesOn begun new
