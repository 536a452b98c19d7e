-- What is so of a run in the history of its lock.
use Rattle.std.proofs.Common.{◌≡◌, ◌≤◌, ◌-◌, ◌/◌, ◌^◌, ◌⊎◌, inl, inr, ℕ, true, false, List, ◌∷◌, [], length, take, Option, Some, None, refl, sym, ap, subst, ◌∙◌, arith}
use Rattle.std.specs.Prelude.{All, IfSome, IfNone, slice_index_or}
use Rattle.std.specs.List.{flat_map}
use Rattle.std.specs.List.Sorted.{IsPermutation, IsNonDecreasingBy}
use Rattle.std.proofs.lemmas.List.{length-take}
use Rattle.std.proofs.lemmas.Option.{IfSome_then}
use Rattle.std.proofs.lemmas.List.Elements.{All-nil, All-weaker}
use Rattle.std.proofs.lemmas.List.Sorted.{IsPermutation-refl}
use Rattle.r9_event.specs.declared.event.event.Entry.{Entry}
use Rattle.r9_outside.specs.outside.Count.{Rose}
use Rattle.r9_lock.specs.Passes.{Known}
use Rattle.model_history.specs.event.Legal.{IsLegal}
use Rattle.model_history.specs.event.Journal.{events_of, AreNumbered}
use Rattle.model_served.specs.session.Server.{Server}
use Rattle.r9_attend.specs.attend.Calls.{Call, IsOfNone}
use Rattle.r9_attend.specs.workers.Lines.{unplain_of}
use Rattle.r9_attend.specs.workers.Shifts.{Shift, Doors, calls_of}
use Rattle.r9_attend.specs.workers.Serving.{Served, IsCall, IsFine, InHistory, IsOfHistory}
use Rattle.r9_attend.specs.declared.workers.lines.Unplain.{Unplain}
use Rattle.r9_attend.specs.declared.workers.report.Report.{Report}
use Rattle.r9_attend.proofs.workers.Listening.{drop_more, none_listened}
use Rattle.r9_service.specs.service.Serving.{IsSound}
use Rattle.r9_service.specs.service.Runs.{TellsNone, Came, NotOpened, Ran}
use Rattle.r9_service.proofs.service.Doors.{none_failed, rose_since}

none_weaker : (o : Option ℕ) {P Q : Type 0} → (P → Q) → IfNone o P → IfNone o Q
none_weaker None f h = f h
none_weaker (Some c) f h = tt

where_some : {A : Type 0} (o : Option A) (P : A → Type 0) → ((x : A) → o ≡ Some x → P x) → IfSome o P
where_some None P f = tt
where_some (Some x) P f = f x refl

both_some : {A : Type 0} (o : Option A) (P Q : A → Type 0) → IfSome o P → IfSome o Q → IfSome o (λ x. P x × Q x)
both_some None P Q p q = tt
both_some (Some x) P Q p q = (p, q)

-- no session, in order
abbrev pub NoLines : List Unplain → Type 0
NoLines list = IsPermutation [] list × IsNonDecreasingBy (λ (ends : Unplain). ends.session) list

pub no_lines : (list : List Unplain) → list ≡ [] → NoLines list
no_lines list is = subst NoLines (sym is) (IsPermutation-refl [], λ i j d le lt. absurd (omega (arith, lt)))

empty_of : (xs : List (ℕ × Entry)) (ys : List Entry) → xs ≡ [] → length xs ≡ length ys → ys ≡ []
empty_of xs [] none same = refl
empty_of xs (y ∷ ys) none same = absurd (omega (arith, same, ap (λ (l : List (ℕ × Entry)). length l) none))

module _ {D I O : Type 0} (doors : Doors D I O) (s : Server) where
  sound : (pass : Known Entry) (k : Call I O) → IsCall doors s pass k → IsSound doors k
  sound pass k is = record {
    fresh = is.fresh;
    none = none_weaker k.attended.session (λ (none : IsOfNone doors.ends s k). (none.input_same, none.output_same)) is.attends.none;
    read_failed = is.attends.read_failed;
    steady = is.attends.read_steady;
    write_failed = is.attends.write_failed;
    flushed = is.attends.flushed;
  }

  -- a history in which nothing happened, where there were no calls
  pub nothing : InHistory doors s [] []
  nothing = record { once = λ c begun. absurd (omega (arith, begun.1)); each = All-nil (IsOfHistory doors s []) }

  came_ran : (share : ℕ → ℕ) (workers : ℕ) (old new : List D) (before after : Known Entry) (history : List Entry) (report : Report)
      → (came : Came doors s share workers old new before after report) → InHistory doors s (events_of history) (calls_of came.served.works.shifts)
      → (report.memory ≡ false → report.spent ≡ None → All IsFine (calls_of came.served.works.shifts)) → after.least ≤ length history
      → AreNumbered 1 history × IsLegal (events_of history) → Ran doors s share workers old new history report
  came_ran share workers old new before after history report came sessions fine least lawful =
      let works = came.served.works in
      record {
        opened = came.opened;
        listened = came.listened;
        shifts = works.shifts;
        came = inl (record { each = works.each; failed = works.failed; spent = works.spent });
        sound = All-weaker (IsCall doors s after) (IsSound doors) (sound after) (calls_of works.shifts) works.calls;
        others = came.others ∙ came.kept;
        numbered = lawful.0;
        legal = lawful.1;
        sessions = sessions;
        listed = both_some report.sessions (λ list. IsPermutation (flat_map (λ k. unplain_of k.attended) (calls_of works.shifts)) list.items) (λ list. IsNonDecreasingBy (λ (ends : Unplain). ends.session) list.items) came.served.listed came.served.ascending;
        rose = where_some report.door_fault (λ worker. (1 ≤ worker) × ((d : D) → Rose (doors.faults (slice_index_or old (worker - 1) d)) (doors.faults (slice_index_or new (worker - 1) d)))) (λ worker is. rose_since doors share workers works.shifts old came.opened new came.listened works.each worker (sym works.failed ∙ is));
        large = IfSome_then report.spent works.large (λ count l. (l.0, omega (arith, l.1, least)));
        steady = λ memory door i d lt. (none_failed doors 1 works.shifts (sym works.failed ∙ door) i d lt, (works.memory memory).doors i d lt);
        fine = fine;
      }

  not_opened_ran : (share : ℕ → ℕ) (workers : ℕ) (old new : List D) (report : Report) → NotOpened doors workers old new report → Ran doors s share workers old new [] report
  not_opened_ran share workers old new report n = record {
    opened = new;
    listened = n.listened;
    shifts = [];
    came = inr (record { none = refl; untouched = refl; spent = n.tells.spent; cause = inr (n.worker, n.named, n.to, n.behind) });
    sound = All-nil (IsSound doors);
    others = drop_more new old n.worker workers n.to n.behind;
    numbered = tt;
    legal = tt;
    sessions = nothing;
    listed = IfSome_then report.sessions n.tells.sessions (λ list is. no_lines list.items is);
    rose = subst (λ (o : Option ℕ). IfSome o (λ worker. (1 ≤ worker) × ((d : D) → Rose (doors.faults (slice_index_or old (worker - 1) d)) (doors.faults (slice_index_or new (worker - 1) d))))) (sym n.named) (n.from, n.rose);
    large = subst (λ (o : Option ℕ). IfSome o (λ count. (2 ^ 62 ≤ count) × (count / 2 ≤ 0))) (sym n.tells.spent) tt;
    steady = λ memory door. All-nil (λ (shift : Shift I O). (shift.failed ≡ false) × (shift.short ≡ false));
    fine = λ memory spent. All-nil IsFine;
  }

  -- there was no memory for the lock
  pub no_lock_ran : (share : ℕ → ℕ) (workers : ℕ) (old : List D) (report : Report) → TellsNone report → report.door_fault ≡ None → report.memory ≡ true → Ran doors s share workers old old [] report
  no_lock_ran share workers old report tells door memory = record {
    opened = old;
    listened = none_listened doors old;
    shifts = [];
    came = inr (record { none = refl; untouched = refl; spent = tells.spent; cause = inl (door, memory) });
    sound = All-nil (IsSound doors);
    others = refl;
    numbered = tt;
    legal = tt;
    sessions = nothing;
    listed = IfSome_then report.sessions tells.sessions (λ list is. no_lines list.items is);
    rose = subst (λ (o : Option ℕ). IfSome o (λ worker. (1 ≤ worker) × ((d : D) → Rose (doors.faults (slice_index_or old (worker - 1) d)) (doors.faults (slice_index_or old (worker - 1) d))))) (sym door) tt;
    large = subst (λ (o : Option ℕ). IfSome o (λ count. (2 ^ 62 ≤ count) × (count / 2 ≤ 0))) (sym tells.spent) tt;
    steady = λ memory door. All-nil (λ (shift : Shift I O). (shift.failed ≡ false) × (shift.short ≡ false));
    fine = λ memory spent. All-nil IsFine;
  }

  -- what the workers of a lock did, of which the pass made all entries of the history
  pub all_ran : (share : ℕ → ℕ) (workers : ℕ) (old new : List D) (before after : Known Entry) (history : List Entry) (report : Report)
      → Came doors s share workers old new before after report ⊎ (NotOpened doors workers old new report × (after ≡ before))
      → before.made ≡ [] → length after.made ≡ length history → after.least ≤ length history
      → ((old new : List D) → length old ≤ workers → (served : Served doors s share old new before after report) → InHistory doors s (events_of history) (calls_of served.works.shifts)
      × (report.memory ≡ false → report.spent ≡ None → All IsFine (calls_of served.works.shifts)))
      → AreNumbered 1 history × IsLegal (events_of history) → Ran doors s share workers old new history report
  all_ran share workers old new before after history report (inl came) none all least told lawful =
      let is = told (take workers came.opened) (take workers new) (omega (arith, length-take workers came.opened)) came.served in
      came_ran share workers old new before after history report came is.0 is.1 least lawful
  all_ran share workers old new before after history report (inr not) none all least told lawful =
      let empty : history ≡ [] = empty_of after.made history (ap (λ (p : Known Entry). p.made) not.1 ∙ none) all in
      subst (λ (h : List Entry). Ran doors s share workers old new h report) (sym empty) (not_opened_ran share workers old new report not.0)
