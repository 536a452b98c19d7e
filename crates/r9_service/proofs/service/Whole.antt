-- All that serving promises.
use Rattle.std.proofs.Common.{◌≡◌, ◌⊎◌, inl, inr, ℕ, Bool, true, false, List, [], Option, Some, None, refl, sym, ◌∙◌}
use Rattle.std.specs.Prelude.{◌||◌, IfSome, IfNone, OnOk, IsErr, IsErrOf, Result, Ok, Err, is_err, is_ok}
use Rattle.std.specs.List.{flat_map}
use Rattle.std.specs.List.Sorted.{IsPermutation, IsNonDecreasingBy}
use Rattle.r9_event.specs.declared.event.event.Entry.{Entry}
use Rattle.r9_event.specs.declared.event.event.Opening.{Opening}
use Rattle.r9_outside.specs.outside.Count.{Rose}
use Rattle.r9_outside.specs.outside.Sink.{Appends, AppendsPart}
use Rattle.r9_outside.specs.declared.outside.sink.SinkFault.{SinkFault}
use Rattle.r9_outside.specs.declared.outside.sink.SinkFault.TheVariants as lines
use Rattle.model_history.specs.event.Legal.{roll_of}
use Rattle.model_history.specs.event.Journal.{events_of}
use Rattle.model_served.specs.served.Served.{served}
use Rattle.r9_attend.specs.workers.Lines.{lines_of, unplain_of}
use Rattle.r9_attend.specs.workers.Shifts.{Shift, Doors, calls_of, share_of}
use Rattle.r9_attend.specs.declared.workers.lines.Unplain.{Unplain}
use Rattle.r9_attend.specs.declared.workers.report.Report.{Report}
use Rattle.r9_service.specs.declared.recorder.recorder.RecordFault.{RecordFault}
use Rattle.r9_service.specs.declared.recorder.recorder.RecordFault.TheVariants as writing
use Rattle.std.proofs.lemmas.List.Elements.{All-nil}
use Rattle.r9_outside.proofs.outside.Appended.{nothing_put}
use Rattle.r9_attend.proofs.workers.Listening.{none_listened}
use Rattle.r9_service.specs.service.Serving.{Side, Serving, Lists, IsSound, kept_record}
use Rattle.r9_service.specs.service.Runs.{Ran, outcome_of, lines_lacked, record_lacked}
use Rattle.r9_service.specs.declared.service.outcome.Outcome.TheVariants as outcome
use Rattle.r9_service.proofs.service.Lines.{none_put}
use Rattle.r9_service.proofs.service.Ran.{no_lines, nothing}
use Rattle.r9_service.proofs.service.Outcomes.{neither, done_first, write_failed, caused, came_by, all_came}

-- the record was put and flushed, or a front of it was put
pub record Finished (finished : Result (Unit {0}) RecordFault) (history : List Entry) (old new : Side) : Type 0 where
  pub whole : OnOk finished (Appends old.held (kept_record history) new.held)
  pub front : AppendsPart old.held (kept_record history) new.held
  pub flushed : OnOk finished (new.unflushed ≡ false)
  pub failed : IsErrOf finished writing.WriteFault → Rose old.faults new.faults

at_ok : {E P : Type 0} (r : Result (Unit {0}) E) → is_err r ≡ false → OnOk r P → P
at_ok (Ok x) is p = p
at_ok (Err e) is p = absurd cc

ok_of : {E : Type 0} (r : Result (Unit {0}) E) → is_err r ≡ false → is_ok r ≡ true
ok_of (Ok x) is = refl
ok_of (Err e) is = absurd cc

err_of : {E : Type 0} (r : Result (Unit {0}) E) → is_ok r ≡ true → is_err r ≡ false
err_of (Ok x) is = refl
err_of (Err e) is = absurd cc

not_ok : {E : Type 0} (r : Result (Unit {0}) E) → is_err r ≡ true → is_ok r ≡ false
not_ok (Ok x) is = absurd cc
not_ok (Err e) is = refl

finished_part : (told : Result (Unit {0}) SinkFault) (finished : Result (Unit {0}) RecordFault) → (is_err told || is_err finished) ≡ false → (is_err told ≡ false) × (is_err finished ≡ false)
finished_part told finished is = neither (is_err told) (is_err finished) is

-- a report of which nothing lacked memory, and all that came with it
lacked_parts : (memory stopped a b : Bool) → (memory || (stopped || (a || b))) ≡ false → (memory ≡ false) × (stopped ≡ false) × ((a || b) ≡ false)
lacked_parts memory stopped a b is =
    let first = neither memory (stopped || (a || b)) is in
    let second = neither stopped (a || b) first.1 in
    (first.0, second.0, second.1)

module _ {D I O : Type 0} (doors : Doors D I O) where
  -- the lines, by the list of a report
  pub lists_of : {A : Type 0} (list : Option A) (items : A → List Unplain) (shifts : List (Shift I O)) (told : Result (Unit {0}) SinkFault) (before after : Option (List ℕ))
      → IfSome list (λ l. IsPermutation (flat_map (λ k. unplain_of k.attended) (calls_of shifts)) (items l) × IsNonDecreasingBy (λ (ends : Unplain). ends.session) (items l))
      → IfSome list (λ l. OnOk told (Appends before (flat_map lines_of (items l)) after))
      → IfSome list (λ l. AppendsPart before (flat_map lines_of (items l)) after)
      → IfNone list (IsErr told × (after ≡ before))
      → Lists doors shifts (is_ok told) before after ⊎ ((is_ok told ≡ false) × (after ≡ before))
  lists_of None items shifts told before after listed whole front none = inr (not_ok told none.0, none.1)
  lists_of (Some l) items shifts told before after listed whole front none = inl (record {
    sessions = items l;
    all = listed.0;
    ascending = listed.1;
    whole = λ ok. at_ok told (err_of told ok) whole;
    front = front;
  })

  pub serving : (opening : Opening) (conns workers : ℕ) (old new : List D) (history : List Entry) (report : Report) (stopped : Bool) (told : Result (Unit {0}) SinkFault)
      (finished : Result (Unit {0}) RecordFault) (out_old out err_old err : Side)
      → (ran : Ran doors (served opening) (share_of conns workers) workers old new history report)
      → stopped ≡ (roll_of (events_of history)).stopped
      → Finished finished history out_old out
      → (IsErrOf told lines.Failed → Rose err_old.faults err.faults)
      → Lists doors ran.shifts (is_ok told) err_old.held err.held ⊎ ((is_ok told ≡ false) × (err.held ≡ err_old.held))
      → Serving doors opening conns workers (outcome_of report stopped told finished) (is_ok told) old new out_old out err_old err
  serving opening conns workers old new history report stopped told finished out_old out err_old err ran is end tell_failed lists =
      let more : Bool = stopped || (lines_lacked told || record_lacked finished) in
      let failed : Bool = is_err told || is_err finished in
      let done = done_first report.door_fault report.spent (report.memory || more) failed in
      let parts = lacked_parts report.memory stopped (lines_lacked told) (record_lacked finished) in
      record {
        worked = record {
          opened = ran.opened;
          listened = ran.listened;
          shifts = ran.shifts;
          came = came_by doors (share_of conns workers) workers ran.shifts old ran.opened new report more failed ran.came;
          sound = ran.sound;
          others = ran.others;
        };
        history = history;
        numbered = ran.numbered;
        legal = ran.legal;
        sessions = ran.sessions;
        caused = caused doors report.door_fault report.spent (report.memory || more) failed history old new out_old out err_old err ran.rose ran.large
            (λ had. sym is ∙ (parts had).1)
            (λ had wrote. write_failed told finished (Rose err_old.faults err.faults) (Rose out_old.faults out.faults) tell_failed end.failed (parts had).2 wrote);
        front = end.front;
        whole = λ found. at_ok finished (finished_part told finished (done found).written).1 end.whole;
        flushed = λ found. at_ok finished (finished_part told finished (done found).written).1 end.flushed;
        well = λ found. let memory = (parts (done found).had_memory).0 in record {
          came = all_came doors (share_of conns workers) workers ran.shifts old ran.opened new report more failed ran.came (done found).no_door memory;
          steady = ran.steady memory (done found).no_door;
          fine = ran.fine memory (done found).unspent;
        };
        lists = lists;
        all_told = λ found. ok_of told (finished_part told finished (done found).written).0;
      }

  -- there was no memory for the hall
  pub not_started : (opening : Opening) (conns workers : ℕ) (doors_old : List D) (out err : Side) → Serving doors opening conns workers outcome.Memory true doors_old doors_old out out err err
  not_started opening conns workers doors_old out err = record {
    worked = record {
      opened = doors_old;
      listened = none_listened doors doors_old;
      shifts = [];
      came = inr (record { none = refl; untouched = refl; cause = inl refl });
      sound = All-nil (IsSound doors);
      others = refl;
    };
    history = [];
    numbered = tt;
    legal = tt;
    sessions = nothing doors (served opening);
    caused = tt;
    front = none_put out.held (kept_record []);
    whole = λ found. absurd cc;
    flushed = λ found. absurd cc;
    well = λ found. absurd cc;
    lists = inl (record { sessions = []; all = (no_lines [] refl).0; ascending = (no_lines [] refl).1; whole = λ told. nothing_put err.held; front = none_put err.held [] });
    all_told = λ found. refl;
  }
