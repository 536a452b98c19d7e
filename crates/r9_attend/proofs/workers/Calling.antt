-- What `attend` says, as one fact of a call.
use Rattle.std.proofs.Common.{◌≡◌, ℕ, subst, List}
use Rattle.std.specs.Prelude.{◌⊎◌, Option, Some, None, All, IfSome, IfNone}
use Rattle.r9_event.specs.declared.event.event.Event.TheVariants as event
use Rattle.r9_event.specs.declared.event.event.Entry.{Entry}
use Rattle.r9_outside.specs.outside.Count.{Rose}
use Rattle.r9_outside.specs.outside.Door.{Accepted, Ended, OneMore}
use Rattle.model_history.specs.event.Journal.{events_of}
use Rattle.model_served.specs.session.Server.{Server}
use Rattle.r9_attend.specs.declared.attend.ends.ReadEnd.TheVariants.{Closed}
use Rattle.r9_attend.specs.declared.attend.ends.WriteEnd.TheVariants as writer_end
use Rattle.r9_attend.specs.attend.Sessions.{Reads, EndsAt, IsRead, IsExactEnd, IsWritten, IsExactWriteEnd, HasEnded, IsSessions, IsMade, IsTheirs, IsPlain, EndsPlainly}
use Rattle.r9_attend.specs.attend.Steps.{IsTold, IsSpent, NotBegun, HasBegun}
use Rattle.r9_attend.specs.attend.Calls.{Tells, Call, IsOfSession, IsOfNone, reader_made, writer_made}

module _ {I O : Type 0} (tells : Tells I O) (s : Server) (k : Call I O) where
  Theirs : (c : ℕ) → List Entry → Type 0
  Theirs c history = IsTheirs c k.reader_old k.reader k.writer_old k.writer history

  pub of_none : (o : Option ℕ) → IfNone o (NotBegun s k.attended.reader k.attended.writer k.reader_old k.reader × (k.writer ≡ k.writer_old) × (k.input ≡ k.input_old) × (k.output ≡ k.output_old))
      → IfNone o (All (λ m. m.1.event ≡ event.Stop) (reader_made k)) → IfNone o (IsOfNone tells s k)
  of_none None cause made = record { cause = cause.0; reader_made = made; writer_same = cause.1; input_same = cause.2; output_same = cause.3 }
  of_none (Some c) cause made = tt

  pub of_session : (o : Option ℕ) → IfSome o (λ c. HasBegun s c k.reader_old k.reader) → IfSome o (λ c. All (IsSessions c) (reader_made k) × All (IsSessions c) (writer_made k))
      → IfSome o (λ c. HasEnded c k.reader)
      → IfSome o (λ c. (bytes : List ℕ) × Reads (tells.left k.input_old) bytes (tells.left k.input) × EndsAt k.attended.reader (tells.left k.input_old) bytes × ((history : List Entry) → IsTheirs c k.reader_old k.reader k.writer_old k.writer history → IsRead s c k.attended.reader bytes (events_of history)))
      → IfSome o (λ c. (history : List Entry) → IsTheirs c k.reader_old k.reader k.writer_old k.writer history → IsWritten s c k.attended.writer (tells.held k.output_old) (tells.held k.output) (events_of history))
      → IfSome o (λ c. (history : List Entry) → IsTheirs c k.reader_old k.reader k.writer_old k.writer history → IsExactEnd s (tells.left k.input_old) k.attended.reader) → IfSome o (λ c. IsExactWriteEnd k.attended.writer)
      → IfSome o (λ c. IsTold s c k.attended.reader k.reader × IsSpent k.attended.writer k.writer)
      → IfSome o (λ c. k.attended.reader ≡ Closed → (history : List Entry) → IsTheirs c k.reader_old k.reader k.writer_old k.writer history → IsMade (writer_made k) (event.End c) × ((k.attended.writer ≡ writer_end.WriteFault) ⊎ (k.attended.writer ≡ writer_end.Memory)))
      → IfSome o (λ c. (Rose (tells.read_faults k.input_old) (tells.read_faults k.input) → ⊥) → (Rose (tells.write_faults k.output_old) (tells.write_faults k.output) → ⊥) → (history : List Entry) → IsTheirs c k.reader_old k.reader k.writer_old k.writer history → IsPlain s c (tells.left k.input_old) (events_of history) → EndsPlainly k.attended.reader k.attended.writer)
      → IfSome o (IsOfSession tells s k)
  of_session None began made ended read written read_exact write_exact told closed complete = tt
  of_session (Some c) began made ended read written read_exact write_exact told closed complete = record {
    began = began;
    reader_made = made.0;
    writer_made = made.1;
    ended = ended;
    told = told;
    closed = closed;
    holds = λ history theirs. record {
      bytes = read.0;
      reads = read.1;
      at_end = read.2;
      read = read.3 history theirs;
      read_exact = read_exact history theirs;
      written = written history theirs;
      write_exact = write_exact;
      complete = λ a b plain. complete a b history theirs plain;
    };
  }

-- who is inside is done
pub done_as : {I O : Type 0} (before after : Option (List (Ended I O))) (session : Option ℕ) (input : I) (output : O) (inside : Option Accepted) (accepted : Accepted) → inside ≡ Some accepted
    → IfSome inside (λ a. OneMore before (record { session = session; accepted = a; input = input; output = output }) after)
    → OneMore before (record { session = session; accepted = accepted; input = input; output = output }) after
done_as before after session input output inside accepted e h =
    subst (λ o. IfSome o (λ a. OneMore before (record { session = session; accepted = a; input = input; output = output }) after)) e h
