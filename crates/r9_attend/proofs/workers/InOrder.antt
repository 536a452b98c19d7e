-- All workers, and a report in order.
use Rattle.std.proofs.Common.{◌≡◌, ℕ, ◌/◌, ◌^◌, ◌≤◌, ◌<◌, Bool, true, false, List, [], ◌∷◌, length, refl, sym, ◌∙◌, subst}
use Rattle.std.specs.Prelude.{Option, Some, None, All, IfSome, IfNone, is_some, ◌||◌, slice_index_or}
use Rattle.std.specs.List.{flat_map}
use Rattle.std.specs.List.Sorted.{IsPermutation, IsNonDecreasingBy}
use Rattle.std.specs.Option.{option_or}
use Rattle.std.proofs.lemmas.List.Elements.{All-nil, All-cons}
use Rattle.r9_lock.specs.Passes.{Known}
use Rattle.r9_event.specs.declared.event.event.Event.{Event}
use Rattle.r9_event.specs.declared.event.event.Entry.{Entry}
use Rattle.model_served.specs.session.Server.{Server}
use Rattle.r9_attend.specs.declared.attend.ends.ReadEnd.{ReadEnd}
use Rattle.r9_attend.specs.declared.attend.ends.ReadEnd.TheVariants as reader
use Rattle.r9_attend.specs.declared.attend.ends.WriteEnd.{WriteEnd}
use Rattle.r9_attend.specs.declared.attend.ends.WriteEnd.TheVariants as writer
use Rattle.r9_attend.specs.attend.Sessions.{RanOut, RanOutWriting}
use Rattle.r9_attend.specs.attend.Calls.{Call}
use Rattle.r9_attend.specs.workers.Lines.{unplain_of}
use Rattle.r9_attend.specs.workers.Shifts.{Doors, calls_of, first_spent, lacks, reader_lacks, writer_lacks, spent_of, reader_spent, writer_spent}
use Rattle.r9_attend.specs.workers.Serving.{IsFine, IsOfHistory, NoSession, Served}
use Rattle.r9_attend.specs.workers.Steps.{Lists, Half}
use Rattle.r9_attend.specs.declared.workers.lines.Unplain.{Unplain}
use Rattle.r9_attend.specs.declared.workers.report.Report.{Report}

neither : (a b : Bool) → (a || b) ≡ false → (a ≡ false) × (b ≡ false)
neither false b e = (refl, e)
neither true b e = absurd cc

no_count : (a b : Option ℕ) → option_or a b ≡ None → (a ≡ None) × (b ≡ None)
no_count None b e = (refl, e)
no_count (Some n) b e = absurd cc

reader_fine : (end : ReadEnd) → reader_lacks end ≡ false → reader_spent end ≡ None → RanOut end → ⊥
reader_fine reader.Memory e f h = absurd cc
reader_fine (reader.Spent n) e f h = absurd cc
reader_fine reader.Ended e f h = h
reader_fine (reader.Cut n) e f h = h
reader_fine (reader.BadSize n) e f h = h
reader_fine (reader.Duplicate t) e f h = h
reader_fine reader.ReadFault e f h = h
reader_fine reader.Closed e f h = h
reader_fine reader.Crowded e f h = h

writer_fine : (end : WriteEnd) → writer_lacks end ≡ false → writer_spent end ≡ None → RanOutWriting end → ⊥
writer_fine writer.Memory e f h = absurd cc
writer_fine (writer.Spent n) e f h = absurd cc
writer_fine writer.Done e f h = h
writer_fine writer.WriteFault e f h = h
writer_fine writer.Crowded e f h = h

none_fine : (history : List Event) (read : ReadEnd) (write : WriteEnd) → reader_lacks read ≡ false → reader_spent read ≡ None → NoSession history read write → ⊥
none_fine history reader.Memory write e f h = absurd cc
none_fine history (reader.Spent n) write e f h = absurd cc
none_fine history reader.Crowded write e f h = h
none_fine history reader.Ended write e f h = h
none_fine history (reader.Cut n) write e f h = h
none_fine history (reader.BadSize n) write e f h = h
none_fine history (reader.Duplicate t) write e f h = h
none_fine history reader.ReadFault write e f h = h
none_fine history reader.Closed write e f h = h

module _ {D I O : Type 0} (doors : Doors D I O) (s : Server) where
  call_fine : (history : List Event) (k : Call I O) → IsOfHistory doors s history k → lacks k.attended ≡ false → spent_of k.attended ≡ None → IsFine k
  call_fine history k is e f = record {
    began = go k.attended.session is.none;
    reader = reader_fine k.attended.reader (neither (reader_lacks k.attended.reader) (writer_lacks k.attended.writer) e).0 (no_count (reader_spent k.attended.reader) (writer_spent k.attended.writer) f).0;
    writer = writer_fine k.attended.writer (neither (reader_lacks k.attended.reader) (writer_lacks k.attended.writer) e).1 (no_count (reader_spent k.attended.reader) (writer_spent k.attended.writer) f).1;
  }
    where
      go : (o : Option ℕ) → IfNone o (NoSession history k.attended.reader k.attended.writer) → is_some o ≡ true
      go (Some c) h = refl
      go None h = absurd (none_fine history k.attended.reader k.attended.writer (neither (reader_lacks k.attended.reader) (writer_lacks k.attended.writer) e).0 (no_count (reader_spent k.attended.reader) (writer_spent k.attended.writer) f).0 h)

  none_spent : (calls : List (Call I O)) → first_spent calls ≡ None → All (λ k. spent_of k.attended ≡ None) calls
  none_spent [] e = All-nil (λ k. spent_of k.attended ≡ None)
  none_spent (k ∷ calls) e = let n = no_count (spent_of k.attended) (first_spent calls) e in All-cons (λ j. spent_of j.attended ≡ None) k calls n.0 (none_spent calls n.1)

  -- calls that are told of in a history are fine, where neither memory nor turns ran out
  pub all_fine : (history : List Event) (calls : List (Call I O)) → All (IsOfHistory doors s history) calls → All (λ k. lacks k.attended ≡ false) calls → first_spent calls ≡ None → All IsFine calls
  all_fine history calls each had unspent k d within =
      call_fine history (slice_index_or calls k d) (each k d within) (had k d within) (none_spent calls unspent k d within)

  pub in_order : (share : ℕ → ℕ) (old new : List D) (before after : Known Entry) (report report' : Report) (h : Half doors s share 1 old new before after report) → length (calls_of h.works.shifts) < 2 ^ 32
      → report'.door_fault ≡ report.door_fault → report'.memory ≡ report.memory → report'.spent ≡ report.spent → is_some report'.sessions ≡ is_some report.sessions
      → ((lines : List Unplain) → Lists report lines → IfSome report'.sessions (λ list. IsPermutation lines list.items)) → IfSome report'.sessions (λ list. IsNonDecreasingBy (λ (ends : Unplain). ends.session) list.items)
      → Served doors s share old new before after report'
  in_order share old new before after report report' h few fault memory spent some listed ascending = record {
    works = record {
      shifts = h.works.shifts;
      each = h.works.each;
      calls = h.works.calls;
      in_turn = h.works.in_turn;
      pass = h.works.pass;
      made = h.works.made;
      failed = fault ∙ h.works.failed;
      spent = spent ∙ h.works.spent;
      large = subst (λ o. IfSome o (λ count. (2 ^ 62 ≤ count) × (count / 2 ≤ after.least))) (sym spent) h.works.large;
      memory = λ e. let m = h.works.memory (sym memory ∙ e) in record { doors = m.doors; calls = m.calls; sessions = some ∙ m.sessions };
    };
    few = few;
    listed = listed (flat_map (λ k. unplain_of k.attended) (calls_of h.works.shifts)) h.lists;
    ascending = ascending;
  }
