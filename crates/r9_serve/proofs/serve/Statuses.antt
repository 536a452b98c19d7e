-- What follows from a status.
use Rattle.std.proofs.Common.{◌≡◌, inl, inr, ℕ, List, [], Option, Some, refl, sym, ap, subst, append-nil, Bor}
use Rattle.std.specs.Prelude.{IfSome}
use Rattle.r9_event.specs.declared.event.event.Event.{Event}
use Rattle.model_history.specs.records.Record.{IsRecord, IsLate, IsNeither}
use Rattle.r9_serve.specs.declared.serve.status.Status.{Status}
use Rattle.r9_serve.specs.declared.serve.status.Status.TheVariants as status
use Rattle.r9_opts.specs.declared.job.Job.{Job}
use Rattle.r9_opts.specs.declared.job.Job.TheVariants.{Replay, Mirror, Serve, Alone, Text, Desk, Gen}
use Rattle.r9_serve.specs.replay.Replays.{HadRecord, WasBadAt, WasLate}
use Rattle.r9_serve.specs.serve.Run.{Ask, AskForRecord, AskToRead, AskToServe, IsFirstOutput, IsOutput, LeftInput, WasAskedNotAlone, WrotePart, IsInputAfter, IsOutAfter, IsDone, IsRefused, IsToldBad, IsToldLate}
use Rattle.r9_journal.proofs.Headers.{late_once, record_not_late}
use Rattle.r9_journal.proofs.Records.{bad_not_late, not_both}
use Rattle.r9_serve.proofs.serve.Asking.{desk_not_record, gen_not_record, gen_reads_not, serve_not_gen, serve_not_record, text_not_record}

-- a record is replayed
pub done_by : (found : Status) (left : Option (List ℕ)) (text : List ℕ) (events : List Event) → left ≡ Some text → IsRecord text events
    → (found ≡ status.Usage → ⊥) → ((place : ℕ) → found ≡ status.BadRecord place → WasBadAt left place) → ((first : ℕ) → found ≡ status.LateRecord first → WasLate left first)
    → ((place : ℕ) → found ≡ status.BadInput place → ⊥) → ((entry reason : ℕ) → found ≡ status.NotAlone entry reason → ⊥) → (found ≡ status.ReadFault → ⊥) → (found ≡ status.WriteFault → ⊥) → ((worker : ℕ) → found ≡ status.DoorFault worker → ⊥) → ((count : ℕ) → found ≡ status.Spent count → ⊥)
    → IsDone found
done_by status.Done left text events told is usage bad late input alone read write door spent = inl refl
done_by status.Usage left text events told is usage bad late input alone read write door spent = absurd (usage refl)
done_by (status.BadRecord place) left text events told is usage bad late input alone read write door spent =
    absurd (not_both text place events (subst (λ (l : Option (List ℕ)). WasBadAt l place) told (bad place refl)) is)
done_by (status.LateRecord first) left text events told is usage bad late input alone read write door spent =
    absurd (record_not_late text events first is (subst (λ (l : Option (List ℕ)). WasLate l first) told (late first refl)))
done_by (status.BadInput place) left text events told is usage bad late input alone read write door spent = absurd (input place refl)
done_by (status.NotAlone entry reason) left text events told is usage bad late input alone read write door spent = absurd (alone entry reason refl)
done_by status.ReadFault left text events told is usage bad late input alone read write door spent = absurd (read refl)
done_by status.WriteFault left text events told is usage bad late input alone read write door spent = absurd (write refl)
done_by status.Memory left text events told is usage bad late input alone read write door spent = inr refl
done_by (status.DoorFault worker) left text events told is usage bad late input alone read write door spent = absurd (door worker refl)
done_by (status.Spent count) left text events told is usage bad late input alone read write door spent = absurd (spent count refl)

had_none : (left : Option (List ℕ)) (text : List ℕ) (events : List Event) → left ≡ Some text → ((others : List Event) → IsRecord text others → ⊥) → HadRecord left events → ⊥
had_none left text events told none had =
    let same : text ≡ had.text = subst (λ (l : Option (List ℕ)). IfSome l (λ bytes. bytes ≡ had.text)) told had.told in
    none events (subst (λ (t : List ℕ). IsRecord t events) (sym same) had.is_record)

-- what is the output of a job is that of a first part of it
pub is_first : (job : Job) (left : Option (List ℕ)) (lines : List ℕ) → IsOutput job left lines → IsFirstOutput job left lines
is_first (Mirror opening) left lines out = record {
  events = out.events;
  later = [];
  had = subst (λ (events : List Event). HadRecord left events) (sym (append-nil out.events)) out.had;
  are = out.are;
}
is_first (Replay opening screen) left lines out = out
is_first (Gen number) left lines out = out
is_first (Serve opening listen workers conns) left lines out = out
is_first (Text columns rows) left lines out = out
is_first Desk left lines out = out
is_first (Alone opening session) left lines out = out

-- what is no record is refused: no job of a record gave an output, and no other was asked for
had_no_output : (words : List (Bor (List ℕ))) (job : Job) (left : Option (List ℕ)) (text lines : List ℕ) → left ≡ Some text → ((events : List Event) → IsRecord text events → ⊥)
    → AskForRecord words → Ask words job → IsFirstOutput job left lines → ⊥
had_no_output words (Replay opening screen) left text lines told none records ask out = had_none left text _ told none out.had
had_no_output words (Mirror opening) left text lines told none records ask out = had_none left text _ told none out.had
had_no_output words (Gen number) left text lines told none records ask out = gen_not_record words number records ask
had_no_output words (Serve opening listen workers conns) left text lines told none records ask out = serve_not_record words records (Serve opening listen workers conns, ask, tt)
had_no_output words (Text columns rows) left text lines told none records ask out = text_not_record words (Text columns rows, ask, tt) records
had_no_output words Desk left text lines told none records ask out = desk_not_record words (Desk, ask, tt) records
had_no_output words (Alone opening session) left text lines told none records ask out = had_none left text _ told none out.are.had

pub refused_by : (words : List (Bor (List ℕ))) (found : Status) (left before after : Option (List ℕ)) (text : List ℕ) → left ≡ Some text → IsNeither text
    → AskForRecord words → (found ≡ status.Usage → ⊥) → IsOutAfter (Ask words) found left before after → ((first : ℕ) → found ≡ status.LateRecord first → WasLate left first)
    → ((place : ℕ) → found ≡ status.BadInput place → ⊥) → ((entry reason : ℕ) → found ≡ status.NotAlone entry reason → WasAskedNotAlone words left entry reason) → (found ≡ status.ReadFault → ⊥) → IsRefused found
refused_by words status.Done left before after text told none records usage out late input alone read =
    absurd (had_no_output words out.job left text out.lines told none.no_record records out.is_asked (is_first out.job left out.lines out.are_lines))
refused_by words status.Usage left before after text told none records usage out late input alone read = absurd (usage refl)
refused_by words (status.BadRecord place) left before after text told none records usage out late input alone read = inl (place, refl)
refused_by words (status.LateRecord first) left before after text told none records usage out late input alone read =
    absurd (none.not_late first (subst (λ (l : Option (List ℕ)). WasLate l first) told (late first refl)))
refused_by words (status.BadInput place) left before after text told none records usage out late input alone read = absurd (input place refl)
refused_by words (status.NotAlone entry reason) left before after text told none records usage out late input alone read = absurd (had_none left text _ told none.no_record (alone entry reason refl).was.had)
refused_by words status.ReadFault left before after text told none records usage out late input alone read = absurd (read refl)
refused_by words status.WriteFault left before after text told none records usage out late input alone read = absurd (had_no_output words out.job left text out.lines told none.no_record records out.is_asked out.are_lines)
refused_by words status.Memory left before after text told none records usage out late input alone read = inr refl
refused_by words (status.DoorFault worker) left before after text told none records usage out late input alone read = absurd (had_no_output words out.job left text out.lines told none.no_record records out.is_asked out.are_lines)
refused_by words (status.Spent count) left before after text told none records usage out late input alone read = absurd (had_no_output words out.job left text out.lines told none.no_record records out.is_asked out.are_lines)

-- what is late is told as that
pub late_by : (words : List (Bor (List ℕ))) (found : Status) (left before after : Option (List ℕ)) (text : List ℕ) (n : ℕ) → left ≡ Some text → IsLate text n
    → AskForRecord words → (found ≡ status.Usage → ⊥) → IsOutAfter (Ask words) found left before after → ((place : ℕ) → found ≡ status.BadRecord place → WasBadAt left place)
    → ((first : ℕ) → found ≡ status.LateRecord first → WasLate left first) → ((place : ℕ) → found ≡ status.BadInput place → ⊥) → ((entry reason : ℕ) → found ≡ status.NotAlone entry reason → WasAskedNotAlone words left entry reason) → (found ≡ status.ReadFault → ⊥) → IsToldLate found n
late_by words status.Done left before after text n told is records usage out bad late input alone read =
    absurd (had_no_output words out.job left text out.lines told (λ events a. record_not_late text events n a is) records out.is_asked (is_first out.job left out.lines out.are_lines))
late_by words status.Usage left before after text n told is records usage out bad late input alone read = absurd (usage refl)
late_by words (status.BadRecord place) left before after text n told is records usage out bad late input alone read =
    absurd (bad_not_late text place n (subst (λ (l : Option (List ℕ)). WasBadAt l place) told (bad place refl)) is)
late_by words (status.LateRecord first) left before after text n told is records usage out bad late input alone read =
    inl (ap (λ (m : ℕ). status.LateRecord m) (late_once text first n (subst (λ (l : Option (List ℕ)). WasLate l first) told (late first refl)) is))
late_by words (status.BadInput place) left before after text n told is records usage out bad late input alone read = absurd (input place refl)
late_by words (status.NotAlone entry reason) left before after text n told is records usage out bad late input alone read = absurd (had_none left text _ told (λ events a. record_not_late text events n a is) (alone entry reason refl).was.had)
late_by words status.ReadFault left before after text n told is records usage out bad late input alone read = absurd (read refl)
late_by words status.WriteFault left before after text n told is records usage out bad late input alone read =
    absurd (had_no_output words out.job left text out.lines told (λ events a. record_not_late text events n a is) records out.is_asked out.are_lines)
late_by words status.Memory left before after text n told is records usage out bad late input alone read = inr refl
late_by words (status.DoorFault worker) left before after text n told is records usage out bad late input alone read =
    absurd (had_no_output words out.job left text out.lines told (λ events a. record_not_late text events n a is) records out.is_asked out.are_lines)
late_by words (status.Spent count) left before after text n told is records usage out bad late input alone read =
    absurd (had_no_output words out.job left text out.lines told (λ events a. record_not_late text events n a is) records out.is_asked out.are_lines)

-- a record is made
pub made_by : (words : List (Bor (List ℕ))) (number : ℕ) (found : Status) → Ask words (Gen number) → (found ≡ status.Usage → ⊥) → ((place : ℕ) → found ≡ status.BadRecord place → AskForRecord words)
    → ((first : ℕ) → found ≡ status.LateRecord first → AskForRecord words) → ((place : ℕ) → found ≡ status.BadInput place → ⊥) → ((entry reason : ℕ) → found ≡ status.NotAlone entry reason → ⊥) → (found ≡ status.ReadFault → AskToRead words) → (found ≡ status.WriteFault → ⊥)
    → ((worker : ℕ) → found ≡ status.DoorFault worker → AskToServe words) → ((count : ℕ) → found ≡ status.Spent count → AskToServe words) → IsDone found
made_by words number status.Done ask usage bad late input alone read write door spent = inl refl
made_by words number status.Usage ask usage bad late input alone read write door spent = absurd (usage refl)
made_by words number (status.BadRecord place) ask usage bad late input alone read write door spent = gen_not_record words number (bad place refl) ask
made_by words number (status.LateRecord first) ask usage bad late input alone read write door spent = gen_not_record words number (late first refl) ask
made_by words number (status.BadInput place) ask usage bad late input alone read write door spent = absurd (input place refl)
made_by words number (status.NotAlone entry reason) ask usage bad late input alone read write door spent = absurd (alone entry reason refl)
made_by words number status.ReadFault ask usage bad late input alone read write door spent = gen_reads_not words number (read refl) ask
made_by words number status.WriteFault ask usage bad late input alone read write door spent = absurd (write refl)
made_by words number status.Memory ask usage bad late input alone read write door spent = inr refl
made_by words number (status.DoorFault worker) ask usage bad late input alone read write door spent = serve_not_gen words number ask (door worker refl)
made_by words number (status.Spent count) ask usage bad late input alone read write door spent = serve_not_gen words number ask (spent count refl)

-- where no other status comes the job is done
pub done_unless : (found : Status) → (found ≡ status.Usage → ⊥) → ((place : ℕ) → found ≡ status.BadRecord place → ⊥) → ((first : ℕ) → found ≡ status.LateRecord first → ⊥)
    → ((place : ℕ) → found ≡ status.BadInput place → ⊥) → ((entry reason : ℕ) → found ≡ status.NotAlone entry reason → ⊥) → (found ≡ status.ReadFault → ⊥) → (found ≡ status.WriteFault → ⊥) → ((worker : ℕ) → found ≡ status.DoorFault worker → ⊥)
    → ((count : ℕ) → found ≡ status.Spent count → ⊥) → IsDone found
done_unless status.Done usage bad late input alone read write door spent = inl refl
done_unless status.Usage usage bad late input alone read write door spent = absurd (usage refl)
done_unless (status.BadRecord place) usage bad late input alone read write door spent = absurd (bad place refl)
done_unless (status.LateRecord first) usage bad late input alone read write door spent = absurd (late first refl)
done_unless (status.BadInput place) usage bad late input alone read write door spent = absurd (input place refl)
done_unless (status.NotAlone entry reason) usage bad late input alone read write door spent = absurd (alone entry reason refl)
done_unless status.ReadFault usage bad late input alone read write door spent = absurd (read refl)
done_unless status.WriteFault usage bad late input alone read write door spent = absurd (write refl)
done_unless status.Memory usage bad late input alone read write door spent = inr refl
done_unless (status.DoorFault worker) usage bad late input alone read write door spent = absurd (door worker refl)
done_unless (status.Spent count) usage bad late input alone read write door spent = absurd (spent count refl)

-- and where there is no output the input is told to be bad at the one place where it is
pub bad_unless : (asked : Job → Type 0) (found : Status) (left before after : Option (List ℕ)) (place : ℕ) → ((job : Job) (lines : List ℕ) → asked job → IsFirstOutput job left lines → ⊥)
    → (found ≡ status.Usage → ⊥) → IsOutAfter asked found left before after → ((at : ℕ) → found ≡ status.BadRecord at → ⊥) → ((first : ℕ) → found ≡ status.LateRecord first → ⊥)
    → ((at : ℕ) → found ≡ status.BadInput at → at ≡ place) → ((entry reason : ℕ) → found ≡ status.NotAlone entry reason → ⊥) → (found ≡ status.ReadFault → ⊥) → IsToldBad found place
bad_unless asked status.Done left before after place none usage out bad late input alone read = absurd (none out.job out.lines out.is_asked (is_first out.job left out.lines out.are_lines))
bad_unless asked status.Usage left before after place none usage out bad late input alone read = absurd (usage refl)
bad_unless asked (status.BadRecord at) left before after place none usage out bad late input alone read = absurd (bad at refl)
bad_unless asked (status.LateRecord first) left before after place none usage out bad late input alone read = absurd (late first refl)
bad_unless asked (status.BadInput at) left before after place none usage out bad late input alone read = inl (ap (λ (n : ℕ). status.BadInput n) (input at refl))
bad_unless asked (status.NotAlone entry reason) left before after place none usage out bad late input alone read = absurd (alone entry reason refl)
bad_unless asked status.ReadFault left before after place none usage out bad late input alone read = absurd (read refl)
bad_unless asked status.WriteFault left before after place none usage out bad late input alone read = absurd (none out.job out.lines out.is_asked out.are_lines)
bad_unless asked status.Memory left before after place none usage out bad late input alone read = inr refl
bad_unless asked (status.DoorFault worker) left before after place none usage out bad late input alone read = absurd (none out.job out.lines out.is_asked out.are_lines)
bad_unless asked (status.Spent count) left before after place none usage out bad late input alone read = absurd (none out.job out.lines out.is_asked out.are_lines)

wrote_under : (asked : Job → Type 0) (job : Job) (left before after : Option (List ℕ)) → asked job → WrotePart (λ j. j ≡ job) left before after → WrotePart asked left before after
wrote_under asked job left before after is wrote = record {
  job = wrote.job;
  is_asked = subst (λ (j : Job). asked j) (sym wrote.is_asked) is;
  lines = wrote.lines;
  are_lines = wrote.are_lines;
  appended = wrote.appended;
}

-- what out holds is that of a job that was asked for
pub out_under : (asked : Job → Type 0) (job : Job) (found : Status) (left before after : Option (List ℕ)) → asked job → IsOutAfter (λ j. j ≡ job) found left before after → IsOutAfter asked found left before after
out_under asked job status.Done left before after is wrote = record {
  job = wrote.job;
  is_asked = subst (λ (j : Job). asked j) (sym wrote.is_asked) is;
  lines = wrote.lines;
  are_lines = wrote.are_lines;
  appended = wrote.appended;
}
out_under asked job status.Usage left before after is out = out
out_under asked job (status.BadRecord place) left before after is out = out
out_under asked job (status.LateRecord first) left before after is out = out
out_under asked job (status.BadInput place) left before after is out = out
out_under asked job (status.NotAlone entry reason) left before after is out = out
out_under asked job status.ReadFault left before after is out = out
out_under asked job status.WriteFault left before after is wrote = wrote_under asked job left before after is wrote
out_under asked job status.Memory left before after is (inl same) = inl same
out_under asked job status.Memory left before after is (inr wrote) = inr (wrote_under asked job left before after is wrote)
out_under asked job (status.DoorFault worker) left before after is wrote = wrote_under asked job left before after is wrote
out_under asked job (status.Spent count) left before after is wrote = wrote_under asked job left before after is wrote

-- what is left of the input is what a job leaves that was asked for
left_under : (asked : Job → Type 0) (job : Job) (before after : Option (List ℕ)) → asked job → LeftInput (λ j. j ≡ job) before after → LeftInput asked before after
left_under asked job before after is (other, same, left) = (other, subst (λ (j : Job). asked j) (sym same) is, left)

pub input_under : (asked : Job → Type 0) (job : Job) (found : Status) (before after : Option (List ℕ)) → asked job → IsInputAfter (λ j. j ≡ job) found before after → IsInputAfter asked found before after
input_under asked job status.Done before after is left = left_under asked job before after is left
input_under asked job status.Usage before after is left = left
input_under asked job (status.BadRecord place) before after is left = left
input_under asked job (status.LateRecord first) before after is left = left
input_under asked job (status.BadInput place) before after is left = left
input_under asked job (status.NotAlone entry reason) before after is left = left
input_under asked job status.ReadFault before after is left = left
input_under asked job status.WriteFault before after is left = left_under asked job before after is left
input_under asked job status.Memory before after is left = left
input_under asked job (status.DoorFault worker) before after is left = left_under asked job before after is left
input_under asked job (status.Spent count) before after is left = left_under asked job before after is left
