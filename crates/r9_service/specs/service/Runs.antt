-- How it went with workers, by their report, and the outcome that follows from it.
use Rattle.std.specs.Prelude.{◌≡◌, ◌≤◌, ◌-◌, ◌/◌, ◌^◌, ◌⊎◌, ◌||◌, ℕ, Bool, true, false, List, [], length, take, drop, All, Option, Some, None, IfSome, Result, Err, is_err, slice_index_or}
use Rattle.std.specs.List.{AllZip, flat_map}
use Rattle.std.specs.List.Sorted.{IsPermutation, IsNonDecreasingBy}
use Rattle.r9_event.specs.declared.event.event.Entry.{Entry}
use Rattle.r9_outside.specs.outside.Count.{Rose}
use Rattle.r9_outside.specs.declared.outside.sink.SinkFault.{SinkFault}
use Rattle.r9_outside.specs.declared.outside.sink.SinkFault.TheVariants as lines
use Rattle.r9_lock.specs.Passes.{Known}
use Rattle.model_history.specs.event.Legal.{IsLegal}
use Rattle.model_history.specs.event.Journal.{events_of, AreNumbered}
use Rattle.model_served.specs.session.Server.{Server}
use Rattle.r9_attend.specs.workers.Lines.{unplain_of}
use Rattle.r9_attend.specs.workers.Shifts.{Shift, Doors, AtDoors, Listened, calls_of, failed_of, first_spent}
use Rattle.r9_attend.specs.workers.Serving.{Served, IsFine, InHistory}
use Rattle.r9_attend.specs.declared.workers.lines.Unplain.{Unplain}
use Rattle.r9_attend.specs.declared.workers.report.Report.{Report}
use Rattle.r9_service.specs.declared.recorder.recorder.RecordFault.{RecordFault}
use Rattle.r9_service.specs.declared.recorder.recorder.RecordFault.TheVariants as writing
use Rattle.r9_service.specs.service.Serving.{IsSound}
use Rattle.r9_service.specs.declared.service.outcome.Outcome.{Outcome}
use Rattle.r9_service.specs.declared.service.outcome.Outcome.TheVariants as outcome

-- ---- the outcome

-- there was no memory for the lines of the sessions
abbrev pub lines_lacked : Result (Unit {0}) SinkFault → Bool
lines_lacked (Err lines.Memory) = true
lines_lacked _ = false

-- there was no memory for the record
abbrev pub record_lacked : Result (Unit {0}) RecordFault → Bool
record_lacked (Err writing.Memory) = true
record_lacked _ = false

-- the first outcome that applies
abbrev pub first_of : (door_fault spent : Option ℕ) (lacked failed : Bool) → Outcome
first_of (Some worker) spent lacked failed = outcome.DoorFault worker
first_of None (Some count) lacked failed = outcome.Spent count
first_of None None true failed = outcome.Memory
first_of None None false true = outcome.WriteFault
first_of None None false false = outcome.Done

abbrev pub outcome_of : Report → (stopped : Bool) (told : Result (Unit {0}) SinkFault) (finished : Result (Unit {0}) RecordFault) → Outcome
outcome_of report stopped told finished =
    first_of report.door_fault report.spent (report.memory || (stopped || (lines_lacked told || record_lacked finished))) (is_err told || is_err finished)

-- ---- the workers

-- a report of no session
pub record TellsNone (report : Report) : Type 0 where
  pub spent : report.spent ≡ None
  pub sessions : IfSome report.sessions (λ list. list.items ≡ [])

module _ {D I O : Type 0} (doors : Doors D I O) where
  -- all doors were opened, and each worker attended to its share
  pub record Came (s : Server) (share : ℕ → ℕ) (workers : ℕ) (old new : List D) (before after : Known Entry) (report : Report) : Type 0 where
    pub opened : List D
    pub listened : AllZip (Listened doors) old opened
    pub kept : drop workers opened ≡ drop workers old
    pub served : Served doors s share (take workers opened) (take workers new) before after report
    pub others : drop workers new ≡ drop workers opened

  -- a worker's door failed when it was opened, and those behind it were left alone
  pub record NotOpened (workers : ℕ) (old new : List D) (report : Report) : Type 0 where
    pub tells : TellsNone report
    pub worker : ℕ
    pub named : report.door_fault ≡ Some worker
    pub from : 1 ≤ worker
    pub to : worker ≤ workers
    pub listened : AllZip (Listened doors) old new
    pub behind : drop worker new ≡ drop worker old
    pub rose : (d : D) → Rose (doors.faults (slice_index_or old (worker - 1) d)) (doors.faults (slice_index_or new (worker - 1) d))

  -- each worker attended to its share, of the doors that failed the lowest worker's is named, and of a lock that was spent the count
  pub record AllRan (share : ℕ → ℕ) (workers : ℕ) (shifts : List (Shift I O)) (opened new : List D) (report : Report) : Type 0 where
    pub each : AtDoors doors share 1 shifts (take workers opened) (take workers new)
    pub failed : report.door_fault ≡ failed_of 1 shifts
    pub spent : report.spent ≡ first_spent (calls_of shifts)

  -- no worker came: there was no memory, or a door failed when it was opened
  pub record NobodyRan (workers : ℕ) (shifts : List (Shift I O)) (old opened new : List D) (report : Report) : Type 0 where
    pub none : shifts ≡ []
    pub untouched : new ≡ opened
    pub spent : report.spent ≡ None
    pub cause : ((report.door_fault ≡ None) × (report.memory ≡ true))
        ⊎ ((worker : ℕ) × (report.door_fault ≡ Some worker) × (worker ≤ workers) × (drop worker opened ≡ drop worker old))

  -- what a run left of its doors, what it told, and what is so of it in the history
  pub record Ran (s : Server) (share : ℕ → ℕ) (workers : ℕ) (old new : List D) (history : List Entry) (report : Report) : Type 0 where
    pub opened : List D
    pub listened : AllZip (Listened doors) old opened
    pub shifts : List (Shift I O)
    pub came : AllRan share workers shifts opened new report ⊎ NobodyRan workers shifts old opened new report
    pub sound : All (IsSound doors) (calls_of shifts)
    pub others : drop workers new ≡ drop workers old
    pub numbered : AreNumbered 1 history
    pub legal : IsLegal (events_of history)
    pub sessions : InHistory doors s (events_of history) (calls_of shifts)
    pub listed : IfSome report.sessions (λ list. IsPermutation (flat_map (λ k. unplain_of k.attended) (calls_of shifts)) list.items × IsNonDecreasingBy (λ (ends : Unplain). ends.session) list.items)
    pub rose : IfSome report.door_fault (λ worker. (1 ≤ worker) × ((d : D) → Rose (doors.faults (slice_index_or old (worker - 1) d)) (doors.faults (slice_index_or new (worker - 1) d))))
    pub large : IfSome report.spent (λ count. (2 ^ 62 ≤ count) × (count / 2 ≤ length history))
    pub steady : report.memory ≡ false → report.door_fault ≡ None → All (λ (shift : Shift I O). (shift.failed ≡ false) × (shift.short ≡ false)) shifts
    pub fine : report.memory ≡ false → report.spent ≡ None → All IsFine (calls_of shifts)
