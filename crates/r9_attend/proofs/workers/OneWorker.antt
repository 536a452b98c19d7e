-- One worker, from call to call.
use Rattle.std.proofs.Common.{◌≡◌, ℕ, ◌+◌, ◌/◌, ◌^◌, ◌≤◌, Bool, true, false, List, [], ◌∷◌, ◌++◌, length, refl, sym, ap, ◌∙◌, subst, arith, append_assoc, append-nil, ⊎_elim, inl, inr}
use Rattle.std.specs.Prelude.{◌⊎◌, Option, Some, None, IfSome, IfNone, map, is_some, if◌then◌else◌}
use Rattle.std.specs.List.{flat_map}
use Rattle.std.specs.Option.{option_map, option_or}
use Rattle.std.proofs.lemmas.List.{map-append}
use Rattle.std.proofs.lemmas.List.Concat.{flat_map-append}
use Rattle.std.proofs.lemmas.List.Elements.{All-weaker, All-push, All-nil}
use Rattle.std.proofs.lemmas.List.Quantifiers.{all_pairs_push}
use Rattle.r9_event.specs.declared.event.event.Entry.{Entry}
use Rattle.r9_outside.specs.outside.Count.{Rose}
use Rattle.r9_outside.specs.outside.Door.{OneMore}
use Rattle.r9_lock.specs.Passes.{Known}
use Rattle.r9_lock.proofs.Lists.{prefix_refl, prefix_trans}
use Rattle.model_served.specs.session.Server.{Server}
use Rattle.r9_attend.specs.declared.attend.ends.Attended.{Attended}
use Rattle.r9_attend.specs.declared.attend.ends.ReadEnd.{ReadEnd}
use Rattle.r9_attend.specs.declared.attend.ends.ReadEnd.TheVariants as reader
use Rattle.r9_attend.specs.declared.attend.ends.WriteEnd.{WriteEnd}
use Rattle.r9_attend.specs.declared.attend.ends.WriteEnd.TheVariants as writer
use Rattle.r9_attend.specs.attend.Steps.{IsTold, IsSpent, NotBegun}
use Rattle.r9_attend.specs.attend.Calls.{Call, Attends, IsOfNone, IsOfSession, reader_made, writer_made}
use Rattle.r9_attend.proofs.attend.Growing.{since_two, since_none, goes_same, goes_both}
use Rattle.r9_attend.specs.workers.Lines.{unplain_of}
use Rattle.r9_attend.specs.workers.Shifts.{Doors, IsFresh, ComesBefore, ended_by, first_spent, lacks, spent_of, reader_spent, writer_spent}
use Rattle.r9_attend.specs.workers.Steps.{Place, place, Lists, IsCallAt, IsLarge, Working, SoFar, Worked, Called, Unmoved}
use Rattle.r9_attend.specs.declared.workers.lines.Unplain.{Unplain}
use Rattle.r9_attend.specs.declared.workers.report.Report.{Report}

-- ---- options

pub or_none : (o : Option ℕ) → option_or o None ≡ o
or_none None = refl
or_none (Some n) = refl

pub or_assoc : (a b c : Option ℕ) → option_or (option_or a b) c ≡ option_or a (option_or b c)
or_assoc None b c = refl
or_assoc (Some n) b c = refl

pub or_holds : (P : ℕ → Type 0) (a b : Option ℕ) → IfSome a P → IfSome b P → IfSome (option_or a b) P
or_holds P None b h k = k
or_holds P (Some n) b h k = h

pub if_weaker : (P Q : ℕ → Type 0) → ((n : ℕ) → P n → Q n) → (o : Option ℕ) → IfSome o P → IfSome o Q
if_weaker P Q f None h = tt
if_weaker P Q f (Some n) h = f n h

more_ended : {E : Type 0} (o : Option (List E)) (xs : List E) (x : E) → option_map (λ list. list ++ x ∷ []) (option_map (λ list. list ++ xs) o) ≡ option_map (λ list. list ++ (xs ++ x ∷ [])) o
more_ended None xs x = refl
more_ended (Some list) xs x = ap Some (append_assoc list xs (x ∷ []))

none_ended : {E : Type 0} (o : Option (List E)) → o ≡ option_map (λ list. list ++ []) o
none_ended None = refl
none_ended (Some list) = ap Some (sym (append-nil list))

-- ---- counts of a spent lock

module _ {I O : Type 0} where
  pub spent-append : (xs ys : List (Call I O)) → first_spent (xs ++ ys) ≡ option_or (first_spent xs) (first_spent ys)
  spent-append [] ys = refl
  spent-append (k ∷ xs) ys = ap (option_or (spent_of k.attended)) (spent-append xs ys) ∙ sym (or_assoc (spent_of k.attended) (first_spent xs) (first_spent ys))

  pub spent-push : (xs : List (Call I O)) (k : Call I O) → first_spent (xs ++ k ∷ []) ≡ option_or (first_spent xs) (spent_of k.attended)
  spent-push xs k = spent-append xs (k ∷ []) ∙ ap (option_or (first_spent xs)) (or_none (spent_of k.attended))

-- a count, at least half of which one of two passes knows
IsCounted : (r w : Known Entry) → ℕ → Type 0
IsCounted r w count = (2 ^ 62 ≤ count) × ((count / 2 ≤ r.least) ⊎ (count / 2 ≤ w.least))

reader_counted : (s : Server) (c : ℕ) (end : ReadEnd) (r w : Known Entry) → IsTold s c end r → IfSome (reader_spent end) (IsCounted r w)
unfolding IsCounted
reader_counted s c (reader.Spent count) r w told = (told.0, inl told.1)
reader_counted s c reader.Ended r w told = tt
reader_counted s c (reader.Cut n) r w told = tt
reader_counted s c (reader.BadSize n) r w told = tt
reader_counted s c (reader.Duplicate t) r w told = tt
reader_counted s c reader.ReadFault r w told = tt
reader_counted s c reader.Closed r w told = tt
reader_counted s c reader.Memory r w told = tt
reader_counted s c reader.Crowded r w told = tt

writer_counted : (end : WriteEnd) (r w : Known Entry) → IsSpent end w → IfSome (writer_spent end) (IsCounted r w)
unfolding IsCounted
writer_counted (writer.Spent count) r w told = (told.0, inr told.1)
writer_counted writer.Done r w told = tt
writer_counted writer.WriteFault r w told = tt
writer_counted writer.Memory r w told = tt
writer_counted writer.Crowded r w told = tt

none_counted : (s : Server) (read : ReadEnd) (write : WriteEnd) (old r w : Known Entry) → NotBegun s read write old r → IfSome (option_or (reader_spent read) (writer_spent write)) (IsCounted r w)
unfolding IsCounted
none_counted s reader.Crowded writer.Crowded old r w h = tt
none_counted s reader.Memory writer.Memory old r w h = tt
none_counted s (reader.Spent count) (writer.Spent same) old r w h = (h.1.large, inl h.1.least)
none_counted s reader.Crowded writer.Done old r w h = absurd h
none_counted s reader.Crowded writer.WriteFault old r w h = absurd h
none_counted s reader.Crowded writer.Memory old r w h = absurd h
none_counted s reader.Crowded (writer.Spent n) old r w h = absurd h
none_counted s reader.Memory writer.Done old r w h = absurd h
none_counted s reader.Memory writer.WriteFault old r w h = absurd h
none_counted s reader.Memory writer.Crowded old r w h = absurd h
none_counted s reader.Memory (writer.Spent n) old r w h = absurd h
none_counted s (reader.Spent n) writer.Done old r w h = absurd h
none_counted s (reader.Spent n) writer.WriteFault old r w h = absurd h
none_counted s (reader.Spent n) writer.Memory old r w h = absurd h
none_counted s (reader.Spent n) writer.Crowded old r w h = absurd h
none_counted s reader.Ended write old r w h = absurd h
none_counted s (reader.Cut n) write old r w h = absurd h
none_counted s (reader.BadSize n) write old r w h = absurd h
none_counted s (reader.Duplicate t) write old r w h = absurd h
none_counted s reader.ReadFault write old r w h = absurd h
none_counted s reader.Closed write old r w h = absurd h

module _ {D I O : Type 0} (doors : Doors D I O) (s : Server) where
  call_counted : (k : Call I O) → Attends doors.ends s k → IfSome (spent_of k.attended) (IsCounted k.reader k.writer)
  call_counted k a = go k.attended.session a.none a.some
    where
      go : (o : Option ℕ) → IfNone o (IsOfNone doors.ends s k) → IfSome o (IsOfSession doors.ends s k) → IfSome (spent_of k.attended) (IsCounted k.reader k.writer)
      go None none some = none_counted s k.attended.reader k.attended.writer k.reader_old k.reader k.writer none.cause
      go (Some c) none some = or_holds (IsCounted k.reader k.writer) (reader_spent k.attended.reader) (writer_spent k.attended.writer)
          (reader_counted s c k.attended.reader k.reader k.writer some.told.0) (writer_counted k.attended.writer k.reader k.writer some.told.1)

  -- nothing yet
  pub at_first : (d : D) (r w : Known Entry) (report : Report) → report.door_fault ≡ None → report.memory ≡ false → report.spent ≡ None → Lists report [] → is_some report.sessions ≡ true
      → SoFar doors s 0 (place d r w) (place d r w) report
  at_first d r w report fault memory spent lists some = record {
    done = [];
    counted = refl;
    working = record {
      ended = none_ended (doors.ended d);
      counted = omega arith;
      each = All-nil (IsCallAt doors s (place d r w));
      in_turn = λ i j e before within. absurd (omega arith);
      reader = goes_same r;
      writer = goes_same w;
      reader_made = since_none r;
      writer_made = since_none w;
      spent = spent;
      large = subst (λ o. IfSome o (IsLarge doors s (place d r w))) (sym spent) tt;
      memory = λ _. (All-nil (λ k. lacks k.attended ≡ false), some);
      lists = lists;
    };
    unfailed = fault;
  }

  -- a call more
  module _ (calls : List (Call I O)) (old : Place D) (d d' : D) (report report' : Report) (k : Call I O) (so : Working doors s calls old (place d k.reader_old k.writer_old) report) (a : Attends doors.ends s k) (fresh : IsFresh doors k)
      (ended : OneMore (doors.ended d) (ended_by doors k) (doors.ended d')) (counted : doors.faults d ≤ doors.faults d')
      (spent : report'.spent ≡ option_or report.spent (spent_of k.attended)) (memory : report'.memory ≡ false → (report.memory ≡ false) × (lacks k.attended ≡ false) × (is_some report'.sessions ≡ true))
      (lists : (lines : List Unplain) → Lists report lines → Lists report' (lines ++ unplain_of k.attended)) where
    now : Place D
    now = place d' k.reader k.writer

    large' : IfSome report'.spent (IsLarge doors s (place d' k.reader k.writer))
    unfolding IsCounted
    large' = subst (λ o. IfSome o (IsLarge doors s (place d' k.reader k.writer))) (sym spent)
        (or_holds (IsLarge doors s (place d' k.reader k.writer)) report.spent (spent_of k.attended)
        (if_weaker (IsLarge doors s (place d k.reader_old k.writer_old)) (IsLarge doors s (place d' k.reader k.writer))
        (λ n h. (h.0, ⊎_elim (λ (l : n / 2 ≤ k.reader_old.least). let g = a.reader_goes.least in inl (omega arith)) (λ (l : n / 2 ≤ k.writer_old.least). let g = a.writer_goes.least in inr (omega arith)) h.1)) report.spent so.large)
        (call_counted k a))

    pub one_more : Working doors s (calls ++ k ∷ []) old (place d' k.reader k.writer) report'
    one_more = record {
      ended = ended ∙ (ap (option_map (λ list. list ++ ended_by doors k ∷ [])) so.ended ∙ (more_ended (doors.ended old.door) (map (ended_by doors) calls) (ended_by doors k)
          ∙ ap (λ ys. option_map (λ list. list ++ ys) (doors.ended old.door)) (sym (map-append (ended_by doors) calls (k ∷ [])))));
      counted = let c = so.counted in omega arith;
      each = All-push (IsCallAt doors s (place d' k.reader k.writer)) calls k
          (All-weaker (IsCallAt doors s (place d k.reader_old k.writer_old)) (IsCallAt doors s (place d' k.reader k.writer))
          (λ j h. record {
            attends = h.attends;
            fresh = h.fresh;
            reader_seen = prefix_trans h.reader_seen a.reader_goes.seen;
            writer_seen = prefix_trans h.writer_seen a.writer_goes.seen;
            reader_least = let l = h.reader_least in let m = a.reader_goes.least in omega arith;
            writer_least = let l = h.writer_least in let m = a.writer_goes.least in omega arith;
          }) calls so.each)
          (record { attends = a; fresh = fresh; reader_seen = prefix_refl k.reader.seen; writer_seen = prefix_refl k.writer.seen; reader_least = omega arith; writer_least = omega arith });
      in_turn = all_pairs_push ComesBefore calls k so.in_turn (λ i e within.
          let h = so.each i e within in record { seen = h.reader_seen; least = h.reader_least });
      reader = goes_both old.reader k.reader_old k.reader so.reader a.reader_goes;
      writer = goes_both old.writer k.writer_old k.writer so.writer a.writer_goes;
      reader_made = since_two old.reader k.reader_old k.reader so.reader.made a.reader_goes.made ∙ (ap (λ l. l ++ reader_made k) so.reader_made
          ∙ (ap (λ l. flat_map reader_made calls ++ l) (sym (append-nil (reader_made k))) ∙ sym (flat_map-append reader_made calls (k ∷ []))));
      writer_made = since_two old.writer k.writer_old k.writer so.writer.made a.writer_goes.made ∙ (ap (λ l. l ++ writer_made k) so.writer_made
          ∙ (ap (λ l. flat_map writer_made calls ++ l) (sym (append-nil (writer_made k))) ∙ sym (flat_map-append writer_made calls (k ∷ []))));
      spent = spent ∙ (ap (λ o. option_or o (spent_of k.attended)) so.spent ∙ sym (spent-push calls k));
      large = large';
      memory = λ e. let m = memory e in (All-push (λ j. lacks j.attended ≡ false) calls k (so.memory m.0).0 m.1, m.2);
      lists = subst (Lists report') (ap (λ l. flat_map (λ j. unplain_of j.attended) calls ++ l) (sym (append-nil (unplain_of k.attended))) ∙ sym (flat_map-append (λ j. unplain_of j.attended) calls (k ∷ []))) (lists (flat_map (λ j. unplain_of j.attended) calls) so.lists);
    }

  -- the same of a call, by what is known of its door and passes
  pub called_more : (n : ℕ) (old : Place D) (d d' : D) (r r' w w' : Known Entry) (report report' : Report) (ends : Attended) → SoFar doors s n old (place d r w) report → Called doors s ends (place d r w) (place d' r' w')
      → report'.door_fault ≡ report.door_fault → report'.spent ≡ option_or report.spent (spent_of ends) → (report'.memory ≡ false → (report.memory ≡ false) × (lacks ends ≡ false) × (is_some report'.sessions ≡ true))
      → ((lines : List Unplain) → Lists report lines → Lists report' (lines ++ unplain_of ends)) → SoFar doors s (n + 1) old (place d' r' w') report'
  called_more n old d d' r r' w w' report report' ends so c fault spent memory lists = record {
    done = so.done ++ c.call ∷ [];
    counted = length_push so.done c.call ∙ ap (λ j. j + 1) so.counted;
    working = subst (λ x. Working doors s (so.done ++ c.call ∷ []) old (place d' x w') report') c.reader
        (subst (λ x. Working doors s (so.done ++ c.call ∷ []) old (place d' c.call.reader x) report') c.writer
        (one_more so.done old d d' report report' c.call
        (subst (λ x. Working doors s so.done old (place d x c.call.writer_old) report) (sym c.reader_old) (subst (λ x. Working doors s so.done old (place d r x) report) (sym c.writer_old) so.working))
        c.attends c.fresh c.ended c.counted
        (subst (λ e. report'.spent ≡ option_or report.spent (spent_of e)) (sym c.is) spent)
        (subst (λ e. report'.memory ≡ false → (report.memory ≡ false) × (lacks e ≡ false) × (is_some report'.sessions ≡ true)) (sym c.is) memory)
        (subst (λ e. (lines : List Unplain) → Lists report lines → Lists report' (lines ++ unplain_of e)) (sym c.is) lists)));
    unfailed = fault ∙ so.unfailed;
  }
    where
      length_push : (xs : List (Call I O)) (x : Call I O) → length (xs ++ x ∷ []) ≡ length xs + 1
      length_push [] x = refl
      length_push (y ∷ xs) x = let h = length_push xs x in omega arith

  -- no call more
  pub stays : (calls : List (Call I O)) (old : Place D) (d d' : D) (r r' w w' : Known Entry) (report report' : Report) → Working doors s calls old (place d r w) report → Unmoved doors s (place d r w) (place d' r' w')
      → report'.spent ≡ report.spent → (report'.memory ≡ false → (report.memory ≡ false) × (is_some report'.sessions ≡ is_some report.sessions)) → ((lines : List Unplain) → Lists report lines → Lists report' lines)
      → Working doors s calls old (place d' r' w') report'
  stays calls old d d' r r' w w' report report' so un spent memory lists =
      subst (λ x. Working doors s calls old (place d' x w') report') (sym un.reader)
      (subst (λ x. Working doors s calls old (place d' r x) report') (sym un.writer) record {
        ended = un.ended ∙ so.ended;
        counted = let a = so.counted in let b = un.counted in omega arith;
        each = All-weaker (IsCallAt doors s (place d r w)) (IsCallAt doors s (place d' r w)) (λ j h. record { attends = h.attends; fresh = h.fresh; reader_seen = h.reader_seen; writer_seen = h.writer_seen; reader_least = h.reader_least; writer_least = h.writer_least }) calls so.each;
        in_turn = so.in_turn;
        reader = so.reader;
        writer = so.writer;
        reader_made = so.reader_made;
        writer_made = so.writer_made;
        spent = spent ∙ so.spent;
        large = subst (λ o. IfSome o (IsLarge doors s (place d r w))) (sym spent) so.large;
        memory = λ e. let m = memory e in let k = so.memory m.0 in (k.0, m.1 ∙ k.1);
        lists = lists (flat_map (λ j. unplain_of j.attended) calls) so.lists;
      })

  -- a worker's end
  pub finish : (share worker : ℕ) (failed short : Bool) (calls : List (Call I O)) (old at : Place D) (report : Report) → Working doors s calls old at report → length calls ≤ share
      → ((length calls ≡ share) ⊎ (doors.over at.door ≡ true) ⊎ (failed ≡ true) ⊎ (short ≡ true)) → (failed ≡ true → Rose (doors.faults old.door) (doors.faults at.door))
      → report.door_fault ≡ (if failed then Some worker else None) → (report.memory ≡ false → short ≡ false) → Worked doors s share worker old at report
  finish share worker failed short calls old at report so most all rose fault memory = record {
    shift = record { calls = calls; failed = failed; short = short };
    working = so;
    door = record { ended = so.ended; most = most; all = all; failed = rose; counted = so.counted };
    failed = fault;
    short = memory;
  }

pub rose_later : (a b c : ℕ) → a ≤ b → Rose b c → Rose a c
rose_later a b c l h = omega arith
