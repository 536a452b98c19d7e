-- What the top call promises.
use Rattle.std.specs.Prelude.{◌≡◌, ◌≤◌, ◌-◌, ◌⊎◌, ℕ, Bool, true, false, List, [], ◌++◌, codes, Option, Err, String, IfSome, slice_index_or}
use Rattle.std.specs.declared.alloc.Global.{Global}
use Rattle.std.specs.Borrow.{Bor}
use Rattle.std.specs.Fmt.{decimal}
use Rattle.r9_outside.specs.outside.Count.{Rose}
use Rattle.r9_outside.specs.outside.Sink.{Appends, AppendsPart}
use Rattle.r9_event.specs.declared.event.event.Entry.{Entry}
use Rattle.r9_event.specs.declared.event.event.Opening.{Opening}
use Rattle.r9_event.specs.declared.event.event.Reply.{Reply}
use Rattle.model_history.specs.event.Legal.{IsLegal}
use Rattle.model_history.specs.event.Journal.{events_of, AreNumbered}
use Rattle.model_history.specs.records.Line.{line, reply_lines}
use Rattle.r9_outside.specs.input.Taken.{WasReadTo}
use Rattle.r9_serve.specs.replay.Replays.{AreReplyLines, WasRead}
use Rattle.r9_serve.specs.mirroring.Mirrored.{AreFirstFrames, AreFrames}
use Rattle.r9_serve.specs.alone.Answers.{AreLoneReplies, WasNotAlone}
use Rattle.r9_clients.specs.textfile.Input.{input_of, limit}
use Rattle.r9_clients.specs.deskfile.Events as desk
use Rattle.r9_clients.specs.typing.Record.{IsTextRecord}
use Rattle.r9_clients.specs.pointing.Record.{IsDeskRecord}
use Rattle.r9_attend.specs.workers.Shifts.{Doors}
use Rattle.r9_service.specs.declared.service.outcome.Outcome.{Outcome}
use Rattle.r9_service.specs.declared.service.outcome.Outcome.TheVariants as outcome
use Rattle.r9_service.specs.service.Serving.{Serving, Side, kept_record}
use Rattle.r9_serve.specs.serve.Made.{CountsMade}
use Rattle.r9_serve.specs.declared.serve.status.Status.{Status}
use Rattle.r9_serve.specs.declared.serve.status.Status.TheVariants as status
use Rattle.r9_opts.specs.Asked.{AskFor, texts_of}
use Rattle.r9_opts.specs.declared.job.Job.{Job}
use Rattle.r9_opts.specs.declared.job.Job.TheVariants.{Replay, Mirror, Serve, Alone, Text, Desk, Gen}

-- the words ask for this job
abbrev pub Ask : List (Bor (List ℕ)) → Job → Type 0
Ask words job = AskFor (texts_of words) job

-- this is the record of some legal history
pub record IsKeptRecord (lines : List ℕ) : Type 0 where
  pub history : List Entry
  pub numbered : AreNumbered 1 history
  pub legal : IsLegal (events_of history)
  pub are_lines : lines ≡ kept_record history

-- The input, where it is told, had a font and a text, and this is the record of a legal history of one session whose window shows the
-- text.
pub record WasTextShown (columns rows : ℕ) (left : Option (List ℕ)) (lines : List ℕ) : Type 0 where
  pub bytes : List ℕ
  pub told : IfSome left (λ all. all ≡ bytes)
  pub shown : IsTextRecord columns rows bytes lines

-- The input, where it is told, had none, and went wrong at this place.
abbrev pub WasBadInput : (left : Option (List ℕ)) (place : ℕ) → Type 0
WasBadInput left place = IfSome left (λ bytes. input_of bytes ≡ Err place)

-- The input, where it is told, was events of the mouse, and this is the record of a legal history of one session that does what they say.
pub record WasPiloted (left : Option (List ℕ)) (lines : List ℕ) : Type 0 where
  pub bytes : List ℕ
  pub told : IfSome left (λ all. all ≡ bytes)
  pub piloted : IsDeskRecord bytes lines

-- The input, where it is told, was none, and went wrong at this place.
abbrev pub WasBadEvents : (left : Option (List ℕ)) (place : ℕ) → Type 0
WasBadEvents left place = IfSome left (λ bytes. desk.events_of bytes ≡ Err place)

-- the lines are those of the replies to a session that is alone with its window in the history whose record the input had
pub record AreLoneLines (opening : Opening) (session : ℕ) (left : Option (List ℕ)) (lines : List ℕ) : Type 0 where
  pub given : List Reply
  pub are : AreLoneReplies opening session left given
  pub are_lines : lines ≡ reply_lines given

-- this is the output of a job
abbrev pub IsOutput : Job → (left : Option (List ℕ)) → (lines : List ℕ) → Type 0
IsOutput (Mirror opening) left lines = AreFrames opening left lines
IsOutput (Replay opening screen) left lines = AreReplyLines opening screen left lines
IsOutput (Gen number) left lines = CountsMade number lines
IsOutput (Serve opening listen workers conns) left lines = IsKeptRecord lines
IsOutput (Text columns rows) left lines = WasTextShown columns rows left lines
IsOutput Desk left lines = WasPiloted left lines
IsOutput (Alone opening session) left lines = AreLoneLines opening session left lines

-- This is the output of a job, or of the first part of it: a mirror puts out the frames of an entry before the next one is made.
abbrev pub IsFirstOutput : Job → (left : Option (List ℕ)) → (lines : List ℕ) → Type 0
IsFirstOutput (Mirror opening) left lines = AreFirstFrames opening left lines
IsFirstOutput job left lines = IsOutput job left lines

-- the output of the job that was asked for
pub record Wrote (asked : Job → Type 0) (left before after : Option (List ℕ)) : Type 0 where
  pub job : Job
  pub is_asked : asked job
  pub lines : List ℕ
  pub are_lines : IsOutput job left lines
  pub appended : Appends before lines after

-- a front of it
pub record WrotePart (asked : Job → Type 0) (left before after : Option (List ℕ)) : Type 0 where
  pub job : Job
  pub is_asked : asked job
  pub lines : List ℕ
  pub are_lines : IsFirstOutput job left lines
  pub appended : AppendsPart before lines after

-- What out holds after each status, by the job that was asked for, what input had left and what out held before.
abbrev pub IsOutAfter : (asked : Job → Type 0) → Status → (left before after : Option (List ℕ)) → Type 0
IsOutAfter asked status.Done left before after = Wrote asked left before after
IsOutAfter asked status.Usage left before after = after ≡ before
IsOutAfter asked (status.BadRecord place) left before after = after ≡ before
IsOutAfter asked (status.LateRecord first) left before after = after ≡ before
IsOutAfter asked (status.BadInput place) left before after = after ≡ before
IsOutAfter asked (status.NotAlone entry reason) left before after = after ≡ before
IsOutAfter asked status.ReadFault left before after = after ≡ before
IsOutAfter asked status.WriteFault left before after = WrotePart asked left before after
IsOutAfter asked status.Memory left before after = (after ≡ before) ⊎ WrotePart asked left before after
IsOutAfter asked (status.DoorFault worker) left before after = WrotePart asked left before after
IsOutAfter asked (status.Spent count) left before after = WrotePart asked left before after

-- what a job leaves of the input that it does not fail to read
abbrev pub IsInputOf : Job → (before after : Option (List ℕ)) → Type 0
IsInputOf (Replay opening screen) before after = WasRead before after
IsInputOf (Mirror opening) before after = WasRead before after
IsInputOf (Gen number) before after = after ≡ before
IsInputOf (Serve opening listen workers conns) before after = after ≡ before
IsInputOf (Text columns rows) before after = WasReadTo limit before after
IsInputOf Desk before after = WasReadTo desk.limit before after
IsInputOf (Alone opening session) before after = WasRead before after

-- the same of a job that was asked for
abbrev pub LeftInput : (asked : Job → Type 0) → (before after : Option (List ℕ)) → Type 0
LeftInput asked before after = (job : Job) × asked job × IsInputOf job before after

-- What input has left after each status, by the job that was asked for.
abbrev pub IsInputAfter : (asked : Job → Type 0) → Status → (before after : Option (List ℕ)) → Type 0
IsInputAfter asked status.Done before after = LeftInput asked before after
IsInputAfter asked status.Usage before after = after ≡ before
IsInputAfter asked (status.BadRecord place) before after = WasRead before after
IsInputAfter asked (status.LateRecord first) before after = WasRead before after
IsInputAfter asked (status.BadInput place) before after = WasReadTo limit before after
IsInputAfter asked (status.NotAlone entry reason) before after = WasRead before after
IsInputAfter asked status.ReadFault before after = Unit {0}
IsInputAfter asked status.WriteFault before after = LeftInput asked before after
IsInputAfter asked status.Memory before after = Unit {0}
IsInputAfter asked (status.DoorFault worker) before after = LeftInput asked before after
IsInputAfter asked (status.Spent count) before after = LeftInput asked before after

-- a replay was asked for, or a mirror
abbrev pub IsReplay : Job → Type 0
IsReplay (Replay opening screen) = Unit {0}
IsReplay (Mirror opening) = Unit {0}
IsReplay (Gen number) = ⊥
IsReplay (Serve opening listen workers conns) = ⊥
IsReplay (Text columns rows) = ⊥
IsReplay Desk = ⊥
IsReplay (Alone opening session) = ⊥

abbrev pub AskForReplay : List (Bor (List ℕ)) → Type 0
AskForReplay words = (job : Job) × Ask words job × IsReplay job

-- what a record is the input of was asked for
abbrev pub IsOfRecord : Job → Type 0
IsOfRecord (Replay opening screen) = Unit {0}
IsOfRecord (Mirror opening) = Unit {0}
IsOfRecord (Alone opening session) = Unit {0}
IsOfRecord (Gen number) = ⊥
IsOfRecord (Serve opening listen workers conns) = ⊥
IsOfRecord (Text columns rows) = ⊥
IsOfRecord Desk = ⊥

abbrev pub AskForRecord : List (Bor (List ℕ)) → Type 0
AskForRecord words = (job : Job) × Ask words job × IsOfRecord job

-- the words ask for what a session is answered that is alone, on this display
abbrev pub AskForAlone : List (Bor (List ℕ)) → Opening → (session : ℕ) → Type 0
AskForAlone words opening session = Ask words (Alone opening session)

-- The words ask for a session that is not alone with its window in the history whose record the input had.
pub record WasAskedNotAlone (words : List (Bor (List ℕ))) (left : Option (List ℕ)) (entry reason : ℕ) : Type 0 where
  pub opening : Opening
  pub session : ℕ
  pub asks : AskForAlone words opening session
  pub was : WasNotAlone opening session left entry reason

-- a text was asked for
abbrev pub IsText : Job → Type 0
IsText (Text columns rows) = Unit {0}
IsText Desk = ⊥
IsText (Replay opening screen) = ⊥
IsText (Mirror opening) = ⊥
IsText (Gen number) = ⊥
IsText (Serve opening listen workers conns) = ⊥
IsText (Alone opening session) = ⊥

abbrev pub AskForText : List (Bor (List ℕ)) → Type 0
AskForText words = (job : Job) × Ask words job × IsText job

-- a desk was asked for
abbrev pub IsDesk : Job → Type 0
IsDesk Desk = Unit {0}
IsDesk (Replay opening screen) = ⊥
IsDesk (Mirror opening) = ⊥
IsDesk (Gen number) = ⊥
IsDesk (Serve opening listen workers conns) = ⊥
IsDesk (Text columns rows) = ⊥
IsDesk (Alone opening session) = ⊥

abbrev pub AskForDesk : List (Bor (List ℕ)) → Type 0
AskForDesk words = (job : Job) × Ask words job × IsDesk job

-- what was asked for reads the input
abbrev pub AskToRead : List (Bor (List ℕ)) → Type 0
AskToRead words = AskForRecord words ⊎ AskForText words ⊎ AskForDesk words

-- A text or a desk was asked for, and the input was none for that, and went wrong at this place.
abbrev pub WasRefused : List (Bor (List ℕ)) → (left : Option (List ℕ)) (place : ℕ) → Type 0
WasRefused words left place = (AskForText words × WasBadInput left place) ⊎ (AskForDesk words × WasBadEvents left place)

-- serving was asked for
abbrev pub IsService : Job → Type 0
IsService (Serve opening listen workers conns) = Unit {0}
IsService (Replay opening screen) = ⊥
IsService (Mirror opening) = ⊥
IsService (Gen number) = ⊥
IsService (Alone opening session) = ⊥
IsService (Text columns rows) = ⊥
IsService Desk = ⊥

abbrev pub AskToServe : List (Bor (List ℕ)) → Type 0
AskToServe words = (job : Job) × Ask words job × IsService job

-- the line on err
abbrev pub status_line : Status → List ℕ
status_line status.Done = []
status_line status.Usage = line (codes "rio9: usage")
status_line (status.BadRecord place) = line (codes "rio9: bad record at byte " ++ decimal place)
status_line (status.LateRecord first) = line (codes "rio9: late record: first entry " ++ decimal first)
status_line (status.BadInput place) = line (codes "rio9: bad input at byte " ++ decimal place)
status_line (status.NotAlone entry reason) = line (codes "rio9: not alone: entry " ++ decimal entry ++ codes ": reason " ++ decimal reason)
status_line status.ReadFault = line (codes "rio9: read fault")
status_line status.WriteFault = line (codes "rio9: write fault")
status_line status.Memory = line (codes "rio9: out of memory")
status_line (status.DoorFault worker) = line (codes "rio9: door fault: worker " ++ decimal worker)
status_line (status.Spent count) = line (codes "rio9: turns spent")

abbrev pub code_of : Status → ℕ
code_of status.Done = 0
code_of status.Usage = 1
code_of (status.BadRecord place) = 2
code_of (status.LateRecord first) = 10
code_of (status.BadInput place) = 11
code_of (status.NotAlone entry reason) = 7
code_of status.ReadFault = 3
code_of status.WriteFault = 4
code_of status.Memory = 5
code_of (status.DoorFault worker) = 6
code_of (status.Spent count) = 9

-- the job was done, unless memory ran out
abbrev pub IsDone : Status → Type 0
IsDone found = (found ≡ status.Done) ⊎ (found ≡ status.Memory)

-- the input was refused, unless memory ran out
abbrev pub IsRefused : Status → Type 0
IsRefused found = ((place : ℕ) × (found ≡ status.BadRecord place)) ⊎ (found ≡ status.Memory)

-- the input was told to begin with the entry n, unless memory ran out
abbrev pub IsToldLate : Status → (n : ℕ) → Type 0
IsToldLate found n = (found ≡ status.LateRecord n) ⊎ (found ≡ status.Memory)

-- the input was told to be bad at this place, unless memory ran out
abbrev pub IsToldBad : Status → (place : ℕ) → Type 0
IsToldBad found place = (found ≡ status.BadInput place) ⊎ (found ≡ status.Memory)

-- the session was told not to be alone from this entry on for this reason, unless memory ran out
abbrev pub IsToldNotAlone : Status → (entry reason : ℕ) → Type 0
IsToldNotAlone found entry reason = (found ≡ status.NotAlone entry reason) ⊎ (found ≡ status.Memory)

-- ---- serving

-- the status of an outcome
abbrev pub status_of : Outcome → Status
status_of outcome.Done = status.Done
status_of (outcome.DoorFault worker) = status.DoorFault worker
status_of (outcome.Spent count) = status.Spent count
status_of outcome.WriteFault = status.WriteFault
status_of outcome.Memory = status.Memory

-- what was asked for was served, and err got the lines of sessions, all of them where it says so
pub record WasServed {D I O : Type 0} (doors : Doors D I O) (asked : Job → Type 0) (found : Status) (told : Bool) (old new : List D) (out_old out err_old err : Side) : Type 0 where
  pub opening : Opening
  pub listen : String Global
  pub workers : ℕ
  pub conns : ℕ
  pub is_asked : asked (Serve opening listen workers conns)
  pub outcome : Outcome
  pub status : found ≡ status_of outcome
  pub serving : Serving doors opening conns workers outcome told old new out_old out err_old err

-- The same, and then err got the line of the status, or a front of it. It got none where the lines of the sessions were not whole.
pub record HasServed {D I O : Type 0} (doors : Doors D I O) (asked : Job → Type 0) (found : Status) (old new : List D) (out_old out err_old err : Side) : Type 0 where
  pub told : Bool
  pub between : Side
  pub served : WasServed doors asked found told old new out_old out err_old between
  pub line : told ≡ true → AppendsPart between.held (status_line found) err.held
  pub silent : told ≡ false → err.held ≡ between.held
  pub counted : between.faults ≤ err.faults

-- the count of the door of this worker, from 1, rose
abbrev pub HasFailed : {D : Type 0} → (faults : D → ℕ) → (worker : ℕ) → (old new : List D) → Type 0
HasFailed {D} faults worker old new = (1 ≤ worker) × ((d : D) → Rose (faults (slice_index_or old (worker - 1) d)) (faults (slice_index_or new (worker - 1) d)))

-- the job was done, or the lock had no more turns, unless memory ran out
abbrev pub IsServedOrSpent : Status → Type 0
IsServedOrSpent found = (found ≡ status.Done) ⊎ ((count : ℕ) × (found ≡ status.Spent count)) ⊎ (found ≡ status.Memory)
