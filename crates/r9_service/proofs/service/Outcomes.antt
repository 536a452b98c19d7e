-- The outcome that follows from a report.
use Rattle.std.proofs.Common.{◌≡◌, ◌≤◌, ◌-◌, ◌/◌, ◌^◌, ◌⊎◌, inl, inr, ℕ, Bool, true, false, List, length, drop, Option, Some, None, refl, sym, ap, ◌∙◌}
use Rattle.std.specs.Prelude.{◌||◌, IfSome, IsErrOf, Result, Ok, Err, is_err, slice_index_or}
use Rattle.r9_event.specs.declared.event.event.Entry.{Entry}
use Rattle.r9_outside.specs.outside.Count.{Rose}
use Rattle.r9_outside.specs.declared.outside.sink.SinkFault.{SinkFault}
use Rattle.r9_outside.specs.declared.outside.sink.SinkFault.TheVariants as lines
use Rattle.model_history.specs.event.Legal.{roll_of}
use Rattle.model_history.specs.event.Journal.{events_of}
use Rattle.r9_attend.specs.workers.Shifts.{Shift, Doors}
use Rattle.r9_attend.specs.declared.workers.report.Report.{Report}
use Rattle.r9_service.specs.declared.recorder.recorder.RecordFault.{RecordFault}
use Rattle.r9_service.specs.declared.recorder.recorder.RecordFault.TheVariants as writing
use Rattle.r9_service.specs.service.Serving.{Side, AllCame, NobodyCame, IsCaused, failed_in, spent_in}
use Rattle.r9_service.specs.service.Runs.{AllRan, NobodyRan, first_of, lines_lacked, record_lacked}
use Rattle.r9_service.specs.declared.service.outcome.Outcome.TheVariants as outcome

pub neither : (a b : Bool) → (a || b) ≡ false → (a ≡ false) × (b ≡ false)
neither false b is = (refl, is)
neither true b is = absurd cc

-- ---- the first outcome that applies

failed_first : (door spent : Option ℕ) (lacked failed : Bool) → failed_in (first_of door spent lacked failed) ≡ door
failed_first (Some worker) spent lacked failed = refl
failed_first None (Some count) lacked failed = refl
failed_first None None true failed = refl
failed_first None None false true = refl
failed_first None None false false = refl

spent_first : (door spent : Option ℕ) (lacked failed : Bool) → door ≡ None → spent_in (first_of door spent lacked failed) ≡ spent
spent_first (Some worker) spent lacked failed none = absurd cc
spent_first None (Some count) lacked failed none = refl
spent_first None None true failed none = refl
spent_first None None false true none = refl
spent_first None None false false none = refl

memory_first : (door spent : Option ℕ) (lacked more failed : Bool) → door ≡ None → spent ≡ None → lacked ≡ true → first_of door spent (lacked || more) failed ≡ outcome.Memory
memory_first (Some worker) spent lacked more failed door none is = absurd cc
memory_first None (Some count) lacked more failed door none is = absurd cc
memory_first None None false more failed door none is = absurd cc
memory_first None None true more failed door none is = refl

door_first : (door spent : Option ℕ) (lacked failed : Bool) (worker : ℕ) → door ≡ Some worker → first_of door spent lacked failed ≡ outcome.DoorFault worker
door_first None spent lacked failed worker is = absurd cc
door_first (Some found) spent lacked failed worker is = ap (λ (o : Option ℕ). first_of o spent lacked failed) is

-- nothing went wrong
pub record AllDone (door spent : Option ℕ) (lacked failed : Bool) : Type 0 where
  pub no_door : door ≡ None
  pub unspent : spent ≡ None
  pub had_memory : lacked ≡ false
  pub written : failed ≡ false

pub done_first : (door spent : Option ℕ) (lacked failed : Bool) → first_of door spent lacked failed ≡ outcome.Done → AllDone door spent lacked failed
done_first (Some worker) spent lacked failed is = absurd cc
done_first None (Some count) lacked failed is = absurd cc
done_first None None true failed is = absurd cc
done_first None None false true is = absurd cc
done_first None None false false is = record { no_door = refl; unspent = refl; had_memory = refl; written = refl }

-- ---- what failed

-- of lines and a record that were not for want of memory, one was not put
pub write_failed : (told : Result (Unit {0}) SinkFault) (finished : Result (Unit {0}) RecordFault) (P Q : Type 0) → (IsErrOf told lines.Failed → P) → (IsErrOf finished writing.WriteFault → Q)
    → (lines_lacked told || record_lacked finished) ≡ false → (is_err told || is_err finished) ≡ true → Q ⊎ P
write_failed (Err lines.Failed) finished P Q p q lacked failed = inr (p refl)
write_failed (Err lines.Memory) finished P Q p q lacked failed = absurd cc
write_failed (Ok x) (Err writing.WriteFault) P Q p q lacked failed = inl (q refl)
write_failed (Ok x) (Err writing.Memory) P Q p q lacked failed = absurd cc
write_failed (Ok x) (Ok y) P Q p q lacked failed = absurd cc

-- ---- what each outcome says

module _ {D I O : Type 0} (doors : Doors D I O) where
  pub caused : (door spent : Option ℕ) (lacked failed : Bool) (history : List Entry) (old new : List D) (out_old out err_old err : Side)
      → IfSome door (λ worker. (1 ≤ worker) × ((d : D) → Rose (doors.faults (slice_index_or old (worker - 1) d)) (doors.faults (slice_index_or new (worker - 1) d))))
      → IfSome spent (λ count. (2 ^ 62 ≤ count) × (count / 2 ≤ length history))
      → (lacked ≡ false → (roll_of (events_of history)).stopped ≡ false)
      → (lacked ≡ false → failed ≡ true → Rose out_old.faults out.faults ⊎ Rose err_old.faults err.faults)
      → IsCaused doors (first_of door spent lacked failed) history old new out_old out err_old err
  caused (Some worker) spent lacked failed history old new out_old out err_old err rose large on wrote = rose
  caused None (Some count) lacked failed history old new out_old out err_old err rose large on wrote = large
  caused None None true failed history old new out_old out err_old err rose large on wrote = tt
  caused None None false true history old new out_old out err_old err rose large on wrote = wrote refl refl
  caused None None false false history old new out_old out err_old err rose large on wrote = on refl

  -- who came, by the outcome
  pub came_by : (share : ℕ → ℕ) (workers : ℕ) (shifts : List (Shift I O)) (old opened new : List D) (report : Report) (more failed : Bool)
      → AllRan doors share workers shifts opened new report ⊎ NobodyRan doors workers shifts old opened new report
      → AllCame doors share workers (first_of report.door_fault report.spent (report.memory || more) failed) shifts opened new
      ⊎ NobodyCame doors workers (first_of report.door_fault report.spent (report.memory || more) failed) shifts old opened new
  came_by share workers shifts old opened new report more failed (inl all) = inl (record {
    each = all.each;
    failed = failed_first report.door_fault report.spent (report.memory || more) failed ∙ all.failed;
    spent = λ none. spent_first report.door_fault report.spent (report.memory || more) failed (sym (failed_first report.door_fault report.spent (report.memory || more) failed) ∙ none) ∙ all.spent;
  })
  came_by share workers shifts old opened new report more failed (inr nobody) = inr (record { none = nobody.none; untouched = nobody.untouched; cause = by nobody.cause })
    where
      by : ((report.door_fault ≡ None) × (report.memory ≡ true)) ⊎ ((worker : ℕ) × (report.door_fault ≡ Some worker) × (worker ≤ workers) × (drop worker opened ≡ drop worker old))
          → (first_of report.door_fault report.spent (report.memory || more) failed ≡ outcome.Memory)
          ⊎ ((worker : ℕ) × (first_of report.door_fault report.spent (report.memory || more) failed ≡ outcome.DoorFault worker) × (worker ≤ workers) × (drop worker opened ≡ drop worker old))
      by (inl none) = inl (memory_first report.door_fault report.spent report.memory more failed none.0 nobody.spent none.1)
      by (inr door) = inr (door.0, door_first report.door_fault report.spent (report.memory || more) failed door.0 door.1, door.2, door.3)

  -- all came, where all is done
  pub all_came : (share : ℕ → ℕ) (workers : ℕ) (shifts : List (Shift I O)) (old opened new : List D) (report : Report) (more failed : Bool)
      → AllRan doors share workers shifts opened new report ⊎ NobodyRan doors workers shifts old opened new report
      → report.door_fault ≡ None → report.memory ≡ false
      → AllCame doors share workers (first_of report.door_fault report.spent (report.memory || more) failed) shifts opened new
  all_came share workers shifts old opened new report more failed (inl all) door memory = record {
    each = all.each;
    failed = failed_first report.door_fault report.spent (report.memory || more) failed ∙ all.failed;
    spent = λ none. spent_first report.door_fault report.spent (report.memory || more) failed door ∙ all.spent;
  }
  all_came share workers shifts old opened new report more failed (inr nobody) door memory = absurd (by nobody.cause)
    where
      by : ((report.door_fault ≡ None) × (report.memory ≡ true)) ⊎ ((worker : ℕ) × (report.door_fault ≡ Some worker) × (worker ≤ workers) × (drop worker opened ≡ drop worker old)) → ⊥
      by (inl none) = let is = none.1 in absurd cc
      by (inr named) = let is = named.1 in absurd cc
