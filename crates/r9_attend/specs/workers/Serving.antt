-- What workers promise beside each other, and what that says of the history of their lock.
use Rattle.std.specs.Prelude.{◌≡◌, ◌≢◌, ◌≤◌, ◌<◌, ◌/◌, ◌^◌, ◌==◌, ◌⊎◌, ℕ, Bool, true, false, List, length, count_by, All, Contains, Option, Some, None, IfSome, IfNone, is_some}
use Rattle.std.specs.List.{flat_map}
use Rattle.std.specs.List.Sorted.{IsPermutation, IsNonDecreasingBy}
use Rattle.r9_event.specs.declared.event.event.Event.{Event}
use Rattle.r9_event.specs.declared.event.event.Event.TheVariants.{Begin, End, Stop}
use Rattle.r9_event.specs.declared.event.event.Entry.{Entry}
use Rattle.r9_lock.specs.Histories.{IsPrefix}
use Rattle.r9_lock.specs.Passes.{Known}
use Rattle.model_served.specs.session.Server.{Server}
use Rattle.r9_attend.specs.declared.attend.ends.ReadEnd.{ReadEnd}
use Rattle.r9_attend.specs.declared.attend.ends.ReadEnd.TheVariants.{Closed, Memory, Spent, Crowded}
use Rattle.r9_attend.specs.declared.attend.ends.WriteEnd.{WriteEnd}
use Rattle.r9_attend.specs.declared.attend.ends.WriteEnd.TheVariants as written
use Rattle.r9_attend.specs.attend.Passes.{GoesOn, made_since}
use Rattle.r9_attend.specs.attend.Sessions.{RanOut, RanOutWriting}
use Rattle.r9_attend.specs.attend.Calls.{Call, Attends, Holds}
use Rattle.r9_attend.specs.workers.Lines.{unplain_of}
use Rattle.r9_attend.specs.workers.Shifts.{Shift, Doors, AtDoors, IsFresh, InTurn, made_by, calls_of, failed_of, first_spent, lacks}
use Rattle.r9_attend.specs.declared.workers.lines.Unplain.{Unplain}
use Rattle.r9_attend.specs.declared.workers.report.Report.{Report}

-- what a report says of the memory: it was there for each session, and for each line
pub record HadMemory {I O : Type 0} (shifts : List (Shift I O)) (report : Report) : Type 0 where
  pub doors : All (λ shift. shift.short ≡ false) shifts
  pub calls : All (λ k. lacks k.attended ≡ false) (calls_of shifts)
  pub sessions : is_some report.sessions ≡ true

module _ {I O : Type 0} where
  -- a session began, and neither end was for want of memory or of turns
  pub record IsFine (k : Call I O) : Type 0 where
    pub began : is_some k.attended.session ≡ true
    pub reader : RanOut k.attended.reader → ⊥
    pub writer : RanOutWriting k.attended.writer → ⊥

-- a call of session c
abbrev pub is_call_of : (c : ℕ) → Option ℕ → Bool
is_call_of c None = false
is_call_of c (Some d) = d == c

-- the count of a lock that has no more turns: it is large, and the history has at least half of it as entries
abbrev pub IsSpentAt : (history : List Event) (count : ℕ) → Type 0
IsSpentAt history count = (2 ^ 62 ≤ count) × (count / 2 ≤ length history)

-- Both ends say why no session began: there was no memory, or the lock had no more turns.
abbrev pub NoSession : (history : List Event) → ReadEnd → WriteEnd → Type 0
NoSession history Memory written.Memory = Unit {0}
NoSession history (Spent count) (written.Spent same) = (same ≡ count) × IsSpentAt history count
NoSession history _ _ = ⊥

module _ {D I O : Type 0} (doors : Doors D I O) (s : Server) where
  -- a call of `attend`, with a sink that held nothing, and with passes of which a pass has seen all that they have seen, and knows of
  -- as many entries as they do
  pub record IsCall (pass : Known Entry) (k : Call I O) : Type 0 where
    pub attends : Attends doors.ends s k
    pub fresh : IsFresh doors k
    pub reader_seen : IsPrefix k.reader.seen pass.seen
    pub writer_seen : IsPrefix k.writer.seen pass.seen
    pub reader_least : k.reader.least ≤ pass.least
    pub writer_least : k.writer.least ≤ pass.least

  -- Workers, from this number on, each at its door, with its calls one after the other. Together they made what the pass has made
  -- since, worker after worker. Of the doors that failed the lowest worker's is named, and of a lock that is spent the count, at least
  -- half of which the history has as entries.
  pub record Works (share : ℕ → ℕ) (worker : ℕ) (old new : List D) (before after : Known Entry) (report : Report) : Type 0 where
    pub shifts : List (Shift I O)
    pub each : AtDoors doors share worker shifts old new
    pub calls : All (IsCall after) (calls_of shifts)
    pub in_turn : All (λ shift. InTurn shift.calls) shifts
    pub pass : GoesOn before after
    pub made : made_since before after ≡ flat_map made_by shifts
    pub failed : report.door_fault ≡ failed_of worker shifts
    pub spent : report.spent ≡ first_spent (calls_of shifts)
    pub large : IfSome report.spent (λ count. (2 ^ 62 ≤ count) × (count / 2 ≤ after.least))
    pub memory : report.memory ≡ false → HadMemory shifts report

  -- the same of all workers, with fewer calls than 2^32, where the sessions that did not end plainly stand in ascending order
  pub record Served (share : ℕ → ℕ) (old new : List D) (before after : Known Entry) (report : Report) : Type 0 where
    pub works : Works share 1 old new before after report
    pub few : length (calls_of works.shifts) < 2 ^ 32
    pub listed : IfSome report.sessions (λ list. IsPermutation (flat_map (λ k. unplain_of k.attended) (calls_of works.shifts)) list.items)
    pub ascending : IfSome report.sessions (λ list. IsNonDecreasingBy (λ (ends : Unplain). ends.session) list.items)

  -- ---- the history

  -- The history begins session c. It ends it, or has a Stop, or has so many entries that the lock had no more turns. Where the reader
  -- found the session closed, the history ends it, and the writer met a fault or had no memory. What `attend` says of the session
  -- holds in the history.
  pub record IsSessionOf (history : List Event) (k : Call I O) (c : ℕ) : Type 0 where
    pub begun : Contains history (Begin c)
    pub ended : Contains history (End c) ⊎ Contains history Stop ⊎ (2 ^ 61 ≤ length history)
    pub closed : k.attended.reader ≡ Closed → Contains history (End c) × ((k.attended.writer ≡ written.WriteFault) ⊎ (k.attended.writer ≡ written.Memory))
    pub read_spent : (count : ℕ) → k.attended.reader ≡ Spent count → IsSpentAt history count
    pub write_spent : (count : ℕ) → k.attended.writer ≡ written.Spent count → IsSpentAt history count
    pub uncrowded : k.attended.reader ≢ Crowded
    pub holds : Holds doors.ends s k c history

  -- a call's session stands in the history, or both ends say why none began
  pub record IsOfHistory (history : List Event) (k : Call I O) : Type 0 where
    pub some : IfSome k.attended.session (IsSessionOf history k)
    pub none : IfNone k.attended.session (NoSession history k.attended.reader k.attended.writer)

  -- each session that the history begins is that of one call, and each call is told of in the history
  pub record InHistory (history : List Event) (calls : List (Call I O)) : Type 0 where
    pub once : (c : ℕ) → Contains history (Begin c) → count_by (λ (k : Call I O). is_call_of c k.attended.session) calls ≡ 1
    pub each : All (IsOfHistory history) calls
