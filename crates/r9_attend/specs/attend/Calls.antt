-- What a call of `attend` is, and what it says.
use Rattle.std.specs.Prelude.{◌≡◌, ◌≤◌, ◌⊎◌, ℕ, Bool, false, List, Option, All, IfSome, IfNone}
use Rattle.r9_event.specs.declared.event.event.Event.{Event}
use Rattle.r9_event.specs.declared.event.event.Event.TheVariants as event
use Rattle.r9_event.specs.declared.event.event.Entry.{Entry}
use Rattle.r9_lock.specs.Passes.{Known}
use Rattle.r9_outside.specs.outside.Count.{Rose}
use Rattle.model_history.specs.event.Journal.{events_of}
use Rattle.model_served.specs.session.Server.{Server}
use Rattle.r9_attend.specs.declared.attend.ends.Attended.{Attended}
use Rattle.r9_attend.specs.declared.attend.ends.ReadEnd.TheVariants.{Closed, ReadFault}
use Rattle.r9_attend.specs.declared.attend.ends.WriteEnd.TheVariants as writer_end
use Rattle.r9_attend.specs.attend.Passes.{GoesOn, made_since}
use Rattle.r9_attend.specs.attend.Sessions.{Reads, EndsAt, IsRead, IsExactEnd, IsWritten, IsExactWriteEnd, HasEnded, IsSessions, IsMade, IsTheirs, IsPlain, EndsPlainly}
use Rattle.r9_attend.specs.attend.Steps.{IsTold, IsSpent, NotBegun, HasBegun}

-- what sources and sinks tell: the bytes left and the faults, the bytes held, whether some are unflushed, and the faults
pub record Tells (I O : Type 0) : Type 0 where
  pub left : I → Option (List ℕ)
  pub read_faults : I → ℕ
  pub held : O → Option (List ℕ)
  pub unflushed : O → Bool
  pub write_faults : O → ℕ

module _ {I O : Type 0} where
  abbrev pub told_ends : (left : I → Option (List ℕ)) (read_faults : I → ℕ) (held : O → Option (List ℕ)) (unflushed : O → Bool) (write_faults : O → ℕ) → Tells I O
  told_ends left read_faults held unflushed write_faults = record { left = left; read_faults = read_faults; held = held; unflushed = unflushed; write_faults = write_faults }

-- how a session went, and both passes and both ends before and after
pub record Call (I O : Type 0) : Type 0 where
  pub attended : Attended
  pub reader_old : Known Entry
  pub reader : Known Entry
  pub writer_old : Known Entry
  pub writer : Known Entry
  pub input_old : I
  pub input : I
  pub output_old : O
  pub output : O

module _ {I O : Type 0} where
  abbrev pub reader_made : Call I O → List (ℕ × Entry)
  reader_made k = made_since k.reader_old k.reader

  abbrev pub writer_made : Call I O → List (ℕ × Entry)
  writer_made k = made_since k.writer_old k.writer

module _ {I O : Type 0} (tells : Tells I O) (s : Server) where
  -- A call in a history: the messages of its session c are those of the bytes that were read, and the bytes that were put are
  -- what was taken for it. Each end is the one to which the bytes lead, or has a cause of its own, and what is whole and meets no
  -- fault ends plainly.
  pub record Holds (k : Call I O) (c : ℕ) (history : List Event) : Type 0 where
    pub bytes : List ℕ
    pub reads : Reads (tells.left k.input_old) bytes (tells.left k.input)
    pub at_end : EndsAt k.attended.reader (tells.left k.input_old) bytes
    pub read : IsRead s c k.attended.reader bytes history
    pub read_exact : IsExactEnd s (tells.left k.input_old) k.attended.reader
    pub written : IsWritten s c k.attended.writer (tells.held k.output_old) (tells.held k.output) history
    pub write_exact : IsExactWriteEnd k.attended.writer
    pub complete : (Rose (tells.read_faults k.input_old) (tells.read_faults k.input) → ⊥) → (Rose (tells.write_faults k.output_old) (tells.write_faults k.output) → ⊥)
        → IsPlain s c (tells.left k.input_old) history → EndsPlainly k.attended.reader k.attended.writer

  -- Session c began in a turn of the reader's pass. What the passes made is its begin, other entries of it, and stops, and it has
  -- ended. In a history whose entries of the session are these, the call holds, and a reader that found the session closed found it
  -- so by the writer, which met a fault or had no memory.
  pub record IsOfSession (k : Call I O) (c : ℕ) : Type 0 where
    pub began : HasBegun s c k.reader_old k.reader
    pub reader_made : All (IsSessions c) (reader_made k)
    pub writer_made : All (IsSessions c) (writer_made k)
    pub ended : HasEnded c k.reader
    pub told : IsTold s c k.attended.reader k.reader × IsSpent k.attended.writer k.writer
    pub closed : k.attended.reader ≡ Closed → (history : List Entry) → IsTheirs c k.reader_old k.reader k.writer_old k.writer history
        → IsMade (made_since k.writer_old k.writer) (event.End c) × ((k.attended.writer ≡ writer_end.WriteFault) ⊎ (k.attended.writer ≡ writer_end.Memory))
    pub holds : (history : List Entry) → IsTheirs c k.reader_old k.reader k.writer_old k.writer history → Holds k c (events_of history)

  -- No session began, and both ends name the cause. Nothing was read or put, and only stops were made.
  pub record IsOfNone (k : Call I O) : Type 0 where
    pub cause : NotBegun s k.attended.reader k.attended.writer k.reader_old k.reader
    pub reader_made : All (λ m. m.1.event ≡ event.Stop) (reader_made k)
    pub writer_same : k.writer ≡ k.writer_old
    pub input_same : k.input ≡ k.input_old
    pub output_same : k.output ≡ k.output_old

  -- all that `attend` says
  pub record Attends (k : Call I O) : Type 0 where
    pub reader_goes : GoesOn k.reader_old k.reader
    pub writer_goes : GoesOn k.writer_old k.writer
    pub none : IfNone k.attended.session (IsOfNone k)
    pub some : IfSome k.attended.session (IsOfSession k)
    pub read_failed : k.attended.reader ≡ ReadFault → Rose (tells.read_faults k.input_old) (tells.read_faults k.input)
    pub write_failed : k.attended.writer ≡ writer_end.WriteFault → Rose (tells.write_faults k.output_old) (tells.write_faults k.output)
    pub read_steady : (k.attended.reader ≡ ReadFault → ⊥) → tells.read_faults k.input ≡ tells.read_faults k.input_old
    pub read_counted : tells.read_faults k.input_old ≤ tells.read_faults k.input
    pub write_counted : tells.write_faults k.output_old ≤ tells.write_faults k.output
    pub flushed : k.attended.writer ≡ writer_end.Done → (tells.unflushed k.output ≡ false) ⊎ (k.output ≡ k.output_old)
