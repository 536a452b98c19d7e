-- What serving promises.
use Rattle.std.specs.Prelude.{◌≡◌, ◌≤◌, ◌-◌, ◌/◌, ◌^◌, ◌⊎◌, ℕ, Bool, true, false, List, [], length, take, drop, All, Option, Some, None, IfNone, slice_index_or}
use Rattle.std.specs.List.{AllZip, flat_map}
use Rattle.std.specs.List.Sorted.{IsPermutation, IsNonDecreasingBy}
use Rattle.r9_event.specs.declared.event.event.Entry.{Entry}
use Rattle.r9_event.specs.declared.event.event.Opening.{Opening}
use Rattle.r9_outside.specs.outside.Count.{Rose}
use Rattle.r9_outside.specs.outside.Sink.{Appends, AppendsPart}
use Rattle.model_history.specs.event.Legal.{IsLegal, roll_of}
use Rattle.model_history.specs.event.Journal.{events_of, AreNumbered}
use Rattle.model_history.specs.records.Record.{record_from}
use Rattle.model_served.specs.served.Served.{served}
use Rattle.r9_attend.specs.declared.attend.ends.ReadEnd.TheVariants.{ReadFault}
use Rattle.r9_attend.specs.declared.attend.ends.WriteEnd.TheVariants as written
use Rattle.r9_attend.specs.attend.Calls.{Call}
use Rattle.r9_attend.specs.workers.Lines.{lines_of, unplain_of}
use Rattle.r9_attend.specs.workers.Shifts.{Shift, Doors, AtDoors, Listened, IsFresh, calls_of, failed_of, first_spent, share_of}
use Rattle.r9_attend.specs.workers.Serving.{IsFine, InHistory}
use Rattle.r9_attend.specs.declared.workers.lines.Unplain.{Unplain}
use Rattle.r9_service.specs.declared.service.outcome.Outcome.{Outcome}
use Rattle.r9_service.specs.declared.service.outcome.Outcome.TheVariants as outcome

-- the record of a history that is written while it is made
abbrev pub kept_record : List Entry → List ℕ
kept_record history = record_from 1 (events_of history)

-- the worker whose door failed
abbrev pub failed_in : Outcome → Option ℕ
failed_in (outcome.DoorFault worker) = Some worker
failed_in _ = None

-- the lock's count, where it had no more turns
abbrev pub spent_in : Outcome → Option ℕ
spent_in (outcome.Spent count) = Some count
spent_in _ = None

-- what an out or an err told before and after: the bytes it holds, whether some are unflushed, and its faults
pub record Side : Type 0 where
  pub held : Option (List ℕ)
  pub unflushed : Bool
  pub faults : ℕ

abbrev pub side : (held : Option (List ℕ)) (unflushed : Bool) (faults : ℕ) → Side
side held unflushed faults = record { held = held; unflushed = unflushed; faults = faults }

module _ {D I O : Type 0} (doors : Doors D I O) where
  -- A session's sink held nothing. Where it did not begin, nothing was read or put. An end that names a fault was counted, a source
  -- that failed was not asked again, and after a plain end of the writer nothing is unflushed.
  pub record IsSound (k : Call I O) : Type 0 where
    pub fresh : IsFresh doors k
    pub none : IfNone k.attended.session ((k.input ≡ k.input_old) × (k.output ≡ k.output_old))
    pub read_failed : k.attended.reader ≡ ReadFault → Rose (doors.ends.read_faults k.input_old) (doors.ends.read_faults k.input)
    pub steady : (k.attended.reader ≡ ReadFault → ⊥) → doors.ends.read_faults k.input ≡ doors.ends.read_faults k.input_old
    pub write_failed : k.attended.writer ≡ written.WriteFault → Rose (doors.ends.write_faults k.output_old) (doors.ends.write_faults k.output)
    pub flushed : k.attended.writer ≡ written.Done → (doors.ends.unflushed k.output ≡ false) ⊎ (k.output ≡ k.output_old)

  -- a door failed when it was opened, or there was no memory, and no worker came
  pub record NobodyCame (workers : ℕ) (found : Outcome) (shifts : List (Shift I O)) (old opened new : List D) : Type 0 where
    pub none : shifts ≡ []
    pub untouched : new ≡ opened
    pub cause : (found ≡ outcome.Memory) ⊎ ((worker : ℕ) × (found ≡ outcome.DoorFault worker) × (worker ≤ workers) × (drop worker opened ≡ drop worker old))

  -- Each worker attended to its share. Of the doors that failed the lowest worker's is named, and else the lock's count if it was spent.
  pub record AllCame (share : ℕ → ℕ) (workers : ℕ) (found : Outcome) (shifts : List (Shift I O)) (opened new : List D) : Type 0 where
    pub each : AtDoors doors share 1 shifts (take workers opened) (take workers new)
    pub failed : failed_in found ≡ failed_of 1 shifts
    pub spent : failed_in found ≡ None → spent_in found ≡ first_spent (calls_of shifts)

  -- The doors of the workers were opened in order, up to one that failed. Where none did, each worker attended to sessions at its door.
  -- The other doors were left alone.
  pub record Worked (share : ℕ → ℕ) (workers : ℕ) (found : Outcome) (old new : List D) : Type 0 where
    pub opened : List D
    pub listened : AllZip (Listened doors) old opened
    pub shifts : List (Shift I O)
    pub came : AllCame share workers found shifts opened new ⊎ NobodyCame workers found shifts old opened new
    pub sound : All IsSound (calls_of shifts)
    pub others : drop workers new ≡ drop workers old

  -- Each worker attended to its whole share, unless none came to its door any more. Each session had a number, and did not end for want
  -- of memory or of turns.
  pub record AllWell (share : ℕ → ℕ) (workers : ℕ) {found : Outcome} {old new : List D} (worked : Worked share workers found old new) : Type 0 where
    pub came : AllCame share workers found worked.shifts worked.opened new
    pub steady : All (λ (shift : Shift I O). (shift.failed ≡ false) × (shift.short ≡ false)) worked.shifts
    pub fine : All IsFine (calls_of worked.shifts)

  -- err got the lines of the sessions that did not end plainly, in ascending order, or a front of them
  pub record Lists (shifts : List (Shift I O)) (told : Bool) (before after : Option (List ℕ)) : Type 0 where
    pub sessions : List Unplain
    pub all : IsPermutation (flat_map (λ k. unplain_of k.attended) (calls_of shifts)) sessions
    pub ascending : IsNonDecreasingBy (λ (ends : Unplain). ends.session) sessions
    pub whole : told ≡ true → Appends before (flat_map lines_of sessions) after
    pub front : AppendsPart before (flat_map lines_of sessions) after

  -- What each outcome says. Where all is done, the history has no Stop.
  abbrev pub IsCaused : Outcome → (history : List Entry) (old new : List D) (out_old out err_old err : Side) → Type 0
  IsCaused outcome.Done history old new out_old out err_old err = (roll_of (events_of history)).stopped ≡ false
  IsCaused (outcome.DoorFault worker) history old new out_old out err_old err = (1 ≤ worker) × ((d : D) → Rose (doors.faults (slice_index_or old (worker - 1) d)) (doors.faults (slice_index_or new (worker - 1) d)))
  IsCaused (outcome.Spent count) history old new out_old out err_old err = (2 ^ 62 ≤ count) × (count / 2 ≤ length history)
  IsCaused outcome.WriteFault history old new out_old out err_old err = Rose out_old.faults out.faults ⊎ Rose err_old.faults err.faults
  IsCaused outcome.Memory history old new out_old out err_old err = Unit {0}

  -- There is one legal history. Each session that it begins is that of one call of a worker, and what is said of that call holds in it.
  -- Out got its record, or a front of it, and err the lines of the sessions.
  pub record Serving (opening : Opening) (conns workers : ℕ) (found : Outcome) (told : Bool) (old new : List D) (out_old out err_old err : Side) : Type 0 where
    pub worked : Worked (share_of conns workers) workers found old new
    pub history : List Entry
    pub numbered : AreNumbered 1 history
    pub legal : IsLegal (events_of history)
    pub sessions : InHistory doors (served opening) (events_of history) (calls_of worked.shifts)
    pub caused : IsCaused found history old new out_old out err_old err
    pub front : AppendsPart out_old.held (kept_record history) out.held
    pub whole : found ≡ outcome.Done → Appends out_old.held (kept_record history) out.held
    pub flushed : found ≡ outcome.Done → out.unflushed ≡ false
    pub well : found ≡ outcome.Done → AllWell (share_of conns workers) workers worked
    pub lists : Lists worked.shifts told err_old.held err.held ⊎ ((told ≡ false) × (err.held ≡ err_old.held))
    pub all_told : found ≡ outcome.Done → told ≡ true
