-- Steps of one worker, and of workers whose report is not yet in order.
use Rattle.std.specs.Prelude.{◌≡◌, ◌≤◌, ◌<◌, ◌+◌, ◌*◌, ◌/◌, ◌^◌, ◌⊎◌, ℕ, true, false, List, ◌++◌, length, map, Option, Some, None, IfSome, Result, Ok, Err, is_some, All, if◌then◌else◌}
use Rattle.std.specs.List.{flat_map}
use Rattle.std.specs.Option.{option_map}
use Rattle.r9_event.specs.declared.event.event.Entry.{Entry}
use Rattle.atomic_table.specs.Seated.{TableId}
use Rattle.r9_lock.specs.Passes.{Known}
use Rattle.r9_outside.specs.outside.Count.{Rose}
use Rattle.r9_outside.specs.outside.Door.{OneMore}
use Rattle.r9_outside.specs.declared.outside.door.AcceptFault.{AcceptFault}
use Rattle.r9_outside.specs.declared.outside.door.AcceptFault.TheVariants as fault
use Rattle.model_served.specs.session.Server.{Server}
use Rattle.r9_attend.specs.declared.attend.ends.Attended.{Attended}
use Rattle.r9_lock.specs.Histories.{IsPrefix}
use Rattle.r9_attend.specs.attend.Passes.{GoesOn, made_since}
use Rattle.r9_attend.specs.attend.Calls.{Call, Attends, reader_made, writer_made}
use Rattle.r9_attend.specs.workers.Lines.{unplain_of}
use Rattle.r9_attend.specs.workers.Shifts.{Shift, Doors, AtDoor, IsFresh, InTurn, calls_of, ended_by, first_spent, lacks}
use Rattle.r9_attend.specs.workers.Serving.{Works}
use Rattle.r9_attend.specs.declared.workers.lines.Unplain.{Unplain}
use Rattle.r9_attend.specs.declared.workers.report.Report.{Report}

-- these are the lines, where there was memory for them
abbrev pub Lists : Report → List Unplain → Type 0
Lists report lines = IfSome report.sessions (λ list. list.items ≡ lines)

-- a pass of the lock, with two shares for each of so many workers, whose numbers begin with this one
pub record CanWork (id : TableId) (worker : ℕ) (pass : Known Entry) (workers : ℕ) : Type 0 where
  pub lock : pass.lock ≡ id
  pub from : 1 ≤ worker
  pub shares : 2 * workers ≤ pass.shares
  pub numbers : worker + workers < 2 ^ 31
  pub some : 0 < workers

-- a door, and its worker's two passes
pub record Place (D : Type 0) : Type 0 where
  pub door : D
  pub reader : Known Entry
  pub writer : Known Entry

abbrev pub place : {D : Type 0} → D → (reader writer : Known Entry) → Place D
place door reader writer = record { door = door; reader = reader; writer = writer }

module _ {D I O : Type 0} (doors : Doors D I O) (s : Server) where
  -- the door is as it was, but perhaps for its faults
  pub record Unmoved (old new : Place D) : Type 0 where
    pub reader : new.reader ≡ old.reader
    pub writer : new.writer ≡ old.writer
    pub ended : doors.ended new.door ≡ doors.ended old.door
    pub counted : doors.faults old.door ≤ doors.faults new.door

  -- a session came and was attended to
  pub record Called (ends : Attended) (old new : Place D) : Type 0 where
    pub call : Call I O
    pub is : call.attended ≡ ends
    pub attends : Attends doors.ends s call
    pub fresh : IsFresh doors call
    pub reader_old : call.reader_old ≡ old.reader
    pub reader : call.reader ≡ new.reader
    pub writer_old : call.writer_old ≡ old.writer
    pub writer : call.writer ≡ new.writer
    pub ended : OneMore (doors.ended old.door) (ended_by doors call) (doors.ended new.door)
    pub counted : doors.faults old.door ≤ doors.faults new.door

  -- the next session of a door
  abbrev pub IsNext : Result (Option Attended) AcceptFault → (old new : Place D) → Type 0
  IsNext (Ok (Some ends)) old new = Called ends old new
  IsNext (Ok None) old new = Unmoved old new × (doors.over new.door ≡ true)
  IsNext (Err fault.Failed) old new = Unmoved old new × Rose (doors.faults old.door) (doors.faults new.door)
  IsNext (Err fault.Memory) old new = Unmoved old new

  -- a call of a worker whose passes have seen its entries, and know of as many entries as its passes do
  pub record IsCallAt (now : Place D) (k : Call I O) : Type 0 where
    pub attends : Attends doors.ends s k
    pub fresh : IsFresh doors k
    pub reader_seen : IsPrefix k.reader.seen now.reader.seen
    pub writer_seen : IsPrefix k.writer.seen now.writer.seen
    pub reader_least : k.reader.least ≤ now.reader.least
    pub writer_least : k.writer.least ≤ now.writer.least

  -- the count of a spent lock, at least half of which one of the passes knows the history to have as entries
  abbrev pub IsLarge : (now : Place D) → ℕ → Type 0
  IsLarge now count = (2 ^ 62 ≤ count) × ((count / 2 ≤ now.reader.least) ⊎ (count / 2 ≤ now.writer.least))

  -- a worker after some calls, at a door that has not failed
  pub record Working (calls : List (Call I O)) (old now : Place D) (report : Report) : Type 0 where
    pub ended : doors.ended now.door ≡ option_map (λ list. list ++ map (ended_by doors) calls) (doors.ended old.door)
    pub counted : doors.faults old.door ≤ doors.faults now.door
    pub each : All (IsCallAt now) calls
    pub in_turn : InTurn calls
    pub reader : GoesOn old.reader now.reader
    pub writer : GoesOn old.writer now.writer
    pub reader_made : made_since old.reader now.reader ≡ flat_map reader_made calls
    pub writer_made : made_since old.writer now.writer ≡ flat_map writer_made calls
    pub spent : report.spent ≡ first_spent calls
    pub large : IfSome report.spent (IsLarge now)
    pub memory : report.memory ≡ false → All (λ k. lacks k.attended ≡ false) calls × (is_some report.sessions ≡ true)
    pub lists : Lists report (flat_map (λ k. unplain_of k.attended) calls)

  -- a worker so far
  pub record SoFar (served : ℕ) (old now : Place D) (report : Report) : Type 0 where
    pub done : List (Call I O)
    pub counted : length done ≡ served
    pub working : Working done old now report
    pub unfailed : report.door_fault ≡ None

  -- a worker at its end
  pub record Worked (share worker : ℕ) (old now : Place D) (report : Report) : Type 0 where
    pub shift : Shift I O
    pub working : Working shift.calls old now report
    pub door : AtDoor doors share shift old.door now.door
    pub failed : report.door_fault ≡ (if shift.failed then Some worker else None)
    pub short : report.memory ≡ false → shift.short ≡ false

  -- workers, whose lines stand in the order of their calls
  pub record Half (share : ℕ → ℕ) (worker : ℕ) (old new : List D) (before after : Known Entry) (report : Report) : Type 0 where
    pub works : Works doors s share worker old new before after report
    pub lists : Lists report (flat_map (λ k. unplain_of k.attended) (calls_of works.shifts))
