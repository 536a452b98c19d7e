-- What workers did at their doors, and what is reported of it.
use Rattle.std.specs.Prelude.{◌≡◌, ◌≤◌, ◌<◌, ◌+◌, ◌/◌, ◌%◌, ◌⊎◌, ℕ, Bool, true, false, nat_le, List, [], ◌∷◌, ◌++◌, length, map, Option, AllPairs, Some, None, IfSome, slice_index_or, if◌then◌else◌, ◌||◌}
use Rattle.std.specs.List.{flat_map}
use Rattle.std.specs.Option.{option_map, option_or}
use Rattle.r9_event.specs.declared.event.event.Entry.{Entry}
use Rattle.r9_lock.specs.Histories.{IsPrefix}
use Rattle.r9_outside.specs.outside.Count.{Rose}
use Rattle.r9_outside.specs.outside.Door.{Ended}
use Rattle.r9_attend.specs.declared.attend.ends.Attended.{Attended}
use Rattle.r9_attend.specs.declared.attend.ends.ReadEnd.{ReadEnd}
use Rattle.r9_attend.specs.declared.attend.ends.ReadEnd.TheVariants.{Memory, Spent}
use Rattle.r9_attend.specs.declared.attend.ends.WriteEnd.{WriteEnd}
use Rattle.r9_attend.specs.declared.attend.ends.WriteEnd.TheVariants as written
use Rattle.r9_attend.specs.attend.Calls.{Tells, Call, reader_made, writer_made}

-- ---- shares, and what is counted of ends

-- how many of the sessions a worker attends to, of workers who are numbered from 1
abbrev pub share_of : (sessions workers worker : ℕ) → ℕ
share_of sessions workers worker = sessions / workers + (if nat_le worker (sessions % workers) then 1 else 0)

abbrev pub reader_lacks : ReadEnd → Bool
reader_lacks Memory = true
reader_lacks _ = false

abbrev pub writer_lacks : WriteEnd → Bool
writer_lacks written.Memory = true
writer_lacks _ = false

-- there was no memory
abbrev pub lacks : Attended → Bool
lacks ends = reader_lacks ends.reader || writer_lacks ends.writer

abbrev pub reader_spent : ReadEnd → Option ℕ
reader_spent (Spent count) = Some count
reader_spent _ = None

abbrev pub writer_spent : WriteEnd → Option ℕ
writer_spent (written.Spent count) = Some count
writer_spent _ = None

-- the count of the lock, where it had no more turns
abbrev pub spent_of : Attended → Option ℕ
spent_of ends = option_or (reader_spent ends.reader) (writer_spent ends.writer)

-- ---- workers

-- a worker's calls, one after the other, whether its door then failed, and whether there was no memory for a session more
pub record Shift (I O : Type 0) : Type 0 where
  pub calls : List (Call I O)
  pub failed : Bool
  pub short : Bool

module _ {I O : Type 0} where
  -- the reader's pass of the later call had seen when this began what that of the other had seen at its end, and knew of as many entries
  pub record ComesBefore (k later : Call I O) : Type 0 where
    pub seen : IsPrefix k.reader.seen later.reader_old.seen
    pub least : k.reader.least ≤ later.reader_old.least

  -- calls one after the other
  abbrev pub InTurn : List (Call I O) → Type 0
  InTurn calls = AllPairs ComesBefore calls

  -- what a worker's two passes made: its reader's, and then its writer's
  abbrev pub made_by : Shift I O → List (ℕ × Entry)
  made_by shift = flat_map reader_made shift.calls ++ flat_map writer_made shift.calls

  -- the calls of all workers
  abbrev pub calls_of : List (Shift I O) → List (Call I O)
  calls_of shifts = flat_map (λ shift. shift.calls) shifts

  -- the lowest worker, from this number on, whose door failed
  abbrev pub failed_of : (worker : ℕ) → List (Shift I O) → Option ℕ
  failed_of worker [] = None
  failed_of worker (shift ∷ shifts) = if shift.failed then Some worker else failed_of (worker + 1) shifts

  -- the first count of a spent lock
  abbrev pub first_spent : List (Call I O) → Option ℕ
  first_spent [] = None
  first_spent (k ∷ calls) = option_or (spent_of k.attended) (first_spent calls)

-- ---- doors

-- what doors tell: the sessions that are done, whether none comes any more, the faults, and what their ends tell
pub record Doors (D I O : Type 0) : Type 0 where
  pub ended : D → Option (List (Ended I O))
  pub over : D → Bool
  pub faults : D → ℕ
  pub ends : Tells I O

abbrev pub told_doors : {D I O : Type 0} → (ended : D → Option (List (Ended I O))) (over : D → Bool) (faults : D → ℕ) → Tells I O → Doors D I O
told_doors ended over faults ends = record { ended = ended; over = over; faults = faults; ends = ends }

module _ {D I O : Type 0} (doors : Doors D I O) where
  -- a call's session, as its door has it
  abbrev pub ended_by : Call I O → Ended I O
  ended_by k = record {
    session = k.attended.session;
    accepted = record { had = doors.ends.left k.input_old; read_faults = doors.ends.read_faults k.input_old; write_faults = doors.ends.write_faults k.output_old };
    input = k.input;
    output = k.output;
  }

  -- a call's sink held nothing, where it tells what it holds
  abbrev pub IsFresh : Call I O → Type 0
  IsFresh k = IfSome (doors.ends.held k.output_old) (λ bytes. bytes ≡ [])

  -- A worker's door: where it tells the sessions that are done, they are now more by those of the worker's calls. These are its share,
  -- or fewer where none came any more, the door failed or memory ran out.
  pub record AtDoor (share : ℕ) (shift : Shift I O) (old new : D) : Type 0 where
    pub ended : doors.ended new ≡ option_map (λ list. list ++ map ended_by shift.calls) (doors.ended old)
    pub most : length shift.calls ≤ share
    pub all : (length shift.calls ≡ share) ⊎ (doors.over new ≡ true) ⊎ (shift.failed ≡ true) ⊎ (shift.short ≡ true)
    pub failed : shift.failed ≡ true → Rose (doors.faults old) (doors.faults new)
    pub counted : doors.faults old ≤ doors.faults new

  -- each worker at its door, from this worker on
  abbrev pub AtDoors : (share : ℕ → ℕ) (worker : ℕ) → List (Shift I O) → (old new : List D) → Type 0
  AtDoors share worker [] [] [] = Unit {0}
  AtDoors share worker (shift ∷ shifts) (old ∷ olds) (new ∷ news) = AtDoor (share worker) shift old new × AtDoors share (worker + 1) shifts olds news
  AtDoors share worker _ _ _ = ⊥

  -- what a listen leaves of a door, but for its faults
  pub record Listened (old new : D) : Type 0 where
    pub ended : doors.ended new ≡ doors.ended old
    pub over : doors.over new ≡ doors.over old
    pub counted : doors.faults old ≤ doors.faults new

-- of the first doors, so many, none tells that its next call fails
abbrev pub NoneFails : {D : Type 0} (fails_next : D → Option Bool) (count : ℕ) → List D → Type 0
NoneFails {D} fails_next count doors = (i : ℕ) (d : D) → i < count → IfSome (fails_next (slice_index_or doors i d)) (λ fails. fails ≡ false)
