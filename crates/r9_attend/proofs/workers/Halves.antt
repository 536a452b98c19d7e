-- Two passes in one, and workers beside each other.
use Rattle.std.proofs.Common.{◌≡◌, ℕ, suc, ◌+◌, ◌*◌, ◌/◌, ◌%◌, ◌^◌, ◌≤◌, ◌<◌, Bool, true, false, List, [], ◌∷◌, ◌++◌, length, refl, sym, ap, ◌∙◌, subst, arith, append_assoc, append-nil, ⊎_elim}
use Rattle.std.specs.Prelude.{Some, All, IfSome, is_some, if◌then◌else◌, slice_index_or}
use Rattle.std.specs.List.{flat_map}
use Rattle.std.specs.Option.{option_or}
use Rattle.std.proofs.Math.Nat.{le-mul_of_pos_right, mul_comm}
use Rattle.std.proofs.lemmas.List.Concat.{flat_map-append}
use Rattle.std.proofs.lemmas.List.Elements.{All-weaker, All-append, All-nil, All-cons}
use Rattle.r9_event.specs.declared.event.event.Entry.{Entry}
use Rattle.r9_lock.specs.Histories.{IsPrefix}
use Rattle.r9_lock.specs.Passes.{Known, left_of, given_of, both_of}
use Rattle.r9_lock.proofs.Lists.{prefix_trans}
use Rattle.model_served.specs.session.Server.{Server}
use Rattle.r9_attend.specs.attend.Passes.{GoesOn, made_since}
use Rattle.r9_attend.specs.attend.Calls.{Call}
use Rattle.r9_attend.proofs.attend.Growing.{since_is}
use Rattle.r9_attend.specs.workers.Lines.{unplain_of}
use Rattle.r9_attend.specs.workers.Shifts.{Shift, Doors, AtDoor, AtDoors, InTurn, made_by, calls_of, failed_of, first_spent, lacks}
use Rattle.r9_attend.specs.workers.Serving.{HadMemory, IsCall, Works}
use Rattle.r9_attend.specs.workers.Steps.{place, Lists, IsCallAt, IsLarge, Worked, Half}
use Rattle.r9_attend.specs.declared.workers.lines.Unplain.{Unplain}
use Rattle.r9_attend.specs.declared.workers.report.Report.{Report}
use Rattle.r9_attend.proofs.workers.OneWorker.{or_holds, if_weaker, spent-append}

-- ---- two passes of one

module _ (old r w new : Known Entry) (shares : ℕ) (a : GoesOn (left_of old shares) r) (b : GoesOn (given_of old shares) w) (is : new ≡ both_of r w) where
  pub both_go : IsPrefix r.seen new.seen → shares ≤ old.shares → GoesOn old new
  both_go seen few = record {
    lock = ap (λ p. p.lock) is ∙ a.lock;
    shares = let x = ap (λ p. p.shares) is in let y = a.shares in let z = b.shares in omega arith;
    least = let x = ap (λ p. p.least) is in let y = a.least in omega arith;
    seen = prefix_trans a.seen seen;
    made = record { rest = a.made.rest ++ w.made; is = ap (λ p. p.made) is ∙ (ap (λ l. l ++ w.made) a.made.is ∙ append_assoc old.made a.made.rest w.made) };
  }

  pub both_made : made_since old new ≡ made_since (left_of old shares) r ++ made_since (given_of old shares) w
  both_made = since_is old new (a.made.rest ++ w.made) (ap (λ p. p.made) is ∙ (ap (λ l. l ++ w.made) a.made.is ∙ append_assoc old.made a.made.rest w.made))
      ∙ ap (λ l. l ++ w.made) (sym (since_is (left_of old shares) r a.made.rest a.made.is))

  pub left_least : r.least ≤ new.least
  left_least = let x = ap (λ p. p.least) is in omega arith

  pub right_least : w.least ≤ new.least
  right_least = let x = ap (λ p. p.least) is in omega arith

-- ---- lists of workers

module _ {I O : Type 0} where
  pub failed-append : (n : ℕ) (xs ys : List (Shift I O)) → failed_of n (xs ++ ys) ≡ option_or (failed_of n xs) (failed_of (n + length xs) ys)
  failed-append n [] ys = ap (λ k. failed_of k ys) (omega arith)
  failed-append n (x ∷ xs) ys = go x.failed (failed-append (n + 1) xs ys ∙ ap (λ k. option_or (failed_of (n + 1) xs) (failed_of k ys)) (omega arith))
    where
      go : (b : Bool) → failed_of (n + 1) (xs ++ ys) ≡ option_or (failed_of (n + 1) xs) (failed_of (n + length (x ∷ xs)) ys) → (if b then Some n else failed_of (n + 1) (xs ++ ys)) ≡ option_or (if b then Some n else failed_of (n + 1) xs) (failed_of (n + length (x ∷ xs)) ys)
      go true later = refl
      go false later = later

  pub calls-append : (xs ys : List (Shift I O)) → calls_of (xs ++ ys) ≡ calls_of xs ++ calls_of ys
  calls-append xs ys = flat_map-append (λ shift. shift.calls) xs ys

  pub had_both : (xs ys : List (Shift I O)) (first second report : Report) → HadMemory xs first → HadMemory ys second → is_some report.sessions ≡ true → HadMemory (xs ++ ys) report
  had_both xs ys first second report h k e = record {
    doors = All-append (λ shift. shift.short ≡ false) xs ys h.doors k.doors;
    calls = subst (All (λ j. lacks j.attended ≡ false)) (sym (calls-append xs ys)) (All-append (λ j. lacks j.attended ≡ false) (calls_of xs) (calls_of ys) h.calls k.calls);
    sessions = e;
  }

module _ {D I O : Type 0} (doors : Doors D I O) (share : ℕ → ℕ) where
  pub doors_length : (n : ℕ) (xs : List (Shift I O)) (ds es : List D) → AtDoors doors share n xs ds es → length xs ≡ length ds
  doors_length n [] [] [] h = refl
  doors_length n (x ∷ xs) (d ∷ ds) (e ∷ es) h = ap suc (doors_length (n + 1) xs ds es h.1)
  doors_length n [] [] (e ∷ es) h = absurd h
  doors_length n [] (d ∷ ds) es h = absurd h
  doors_length n (x ∷ xs) [] es h = absurd h
  doors_length n (x ∷ xs) (d ∷ ds) [] h = absurd h

  pub doors-append : (n : ℕ) (xs ys : List (Shift I O)) (ds ds' es es' : List D) → AtDoors doors share n xs ds es → AtDoors doors share (n + length ds) ys ds' es' → AtDoors doors share n (xs ++ ys) (ds ++ ds') (es ++ es')
  doors-append n [] ys [] ds' [] es' h k = subst (λ m. AtDoors doors share m ys ds' es') (omega arith) k
  doors-append n (x ∷ xs) ys (d ∷ ds) ds' (e ∷ es) es' h k = (h.0, doors-append (n + 1) xs ys ds ds' es es' h.1 (subst (λ m. AtDoors doors share m ys ds' es') (omega arith) k))
  doors-append n [] ys [] ds' (e ∷ es) es' h k = absurd h
  doors-append n [] ys (d ∷ ds) ds' es es' h k = absurd h
  doors-append n (x ∷ xs) ys [] ds' es es' h k = absurd h
  doors-append n (x ∷ xs) ys (d ∷ ds) ds' [] es' h k = absurd h

-- ---- one worker alone

module _ {D I O : Type 0} (doors : Doors D I O) (s : Server) where
  pub alone : (share : ℕ → ℕ) (own worker : ℕ) (d e : D) (old r w new : Known Entry) (report : Report) → own ≡ share worker → 1 ≤ old.shares
      → Worked doors s own worker (place d (left_of old 1) (given_of old 1)) (place e r w) report → new ≡ both_of r w → IsPrefix r.seen new.seen → IsPrefix w.seen new.seen
      → Half doors s share worker (d ∷ []) (e ∷ []) old new report
  alone share own worker d e old r w new report same few h is seen seen' = record {
    works = record {
      shifts = h.shift ∷ [];
      each = (subst (λ n. AtDoor doors n h.shift d e) same h.door, tt);
      calls = subst (All (IsCall doors s new)) (sym (append-nil h.shift.calls)) (All-weaker (IsCallAt doors s (place e r w)) (IsCall doors s new)
          (λ k c. record {
            attends = c.attends;
            fresh = c.fresh;
            reader_seen = prefix_trans c.reader_seen seen;
            writer_seen = prefix_trans c.writer_seen seen';
            reader_least = let x : k.reader.least ≤ r.least = c.reader_least in let y = left_least old r w new 1 h.working.reader h.working.writer is in omega arith;
            writer_least = let x : k.writer.least ≤ w.least = c.writer_least in let y = right_least old r w new 1 h.working.reader h.working.writer is in omega arith;
          }) h.shift.calls h.working.each);
      in_turn = All-cons (λ (shift : Shift I O). InTurn shift.calls) h.shift [] h.working.in_turn (All-nil (λ (shift : Shift I O). InTurn shift.calls));
      pass = both_go old r w new 1 h.working.reader h.working.writer is seen few;
      made = both_made old r w new 1 h.working.reader h.working.writer is ∙ (ap (λ l. l ++ made_since (given_of old 1) w) h.working.reader_made
          ∙ (ap (λ l. flat_map reader_made' h.shift.calls ++ l) h.working.writer_made ∙ sym (append-nil (made_by h.shift))));
      failed = h.failed;
      spent = h.working.spent ∙ ap first_spent (sym (append-nil h.shift.calls));
      large = if_weaker (IsLarge doors s (place e r w)) (λ count. (2 ^ 62 ≤ count) × (count / 2 ≤ new.least))
          (λ n l. (l.0, ⊎_elim (λ (x : n / 2 ≤ r.least). let y = left_least old r w new 1 h.working.reader h.working.writer is in omega arith) (λ (x : n / 2 ≤ w.least). let y = right_least old r w new 1 h.working.reader h.working.writer is in omega arith) l.1))
          report.spent h.working.large;
      memory = λ m. let k = h.working.memory m in record {
        doors = All-cons (λ shift. shift.short ≡ false) h.shift [] (h.short m) (All-nil (λ shift. shift.short ≡ false));
        calls = subst (All (λ j. lacks j.attended ≡ false)) (sym (append-nil h.shift.calls)) k.0;
        sessions = k.1;
      };
    };
    lists = subst (λ calls. Lists report (flat_map (λ k. unplain_of k.attended) calls)) (sym (append-nil h.shift.calls)) h.working.lists;
  }
    where
      reader_made' : Call I O → List (ℕ × Entry)
      reader_made' k = made_since k.reader_old k.reader

  -- ---- two halves

  later_call : (pass later : Known Entry) (k : Call I O) → IsPrefix pass.seen later.seen → pass.least ≤ later.least → IsCall doors s pass k → IsCall doors s later k
  later_call pass later k seen least c = record {
    attends = c.attends;
    fresh = c.fresh;
    reader_seen = prefix_trans c.reader_seen seen;
    writer_seen = prefix_trans c.writer_seen seen;
    reader_least = let x = c.reader_least in omega arith;
    writer_least = let x = c.writer_least in omega arith;
  }

  module _ (share : ℕ → ℕ) (n m shares : ℕ) (ds ds' es es' : List D) (old r w new : Known Entry) (first second report : Report)
      (h : Half doors s share n ds es (left_of old shares) r first) (k : Half doors s share m ds' es' (given_of old shares) w second)
      (middle : m ≡ n + length ds) (few : shares ≤ old.shares) (is : new ≡ both_of r w) (seen : IsPrefix r.seen new.seen) (seen' : IsPrefix w.seen new.seen)
      (fault : report.door_fault ≡ option_or first.door_fault second.door_fault) (spent : report.spent ≡ option_or first.spent second.spent)
      (memory : report.memory ≡ false → (first.memory ≡ false) × (second.memory ≡ false) × (is_some report.sessions ≡ true))
      (lists : (lines more : List Unplain) → Lists first lines → Lists second more → Lists report (lines ++ more)) where
    shifts : List (Shift I O)
    shifts = h.works.shifts

    more : List (Shift I O)
    more = k.works.shifts

    Large : ℕ → Type 0
    Large count = (2 ^ 62 ≤ count) × (count / 2 ≤ new.least)

    both_works : Works doors s share n (ds ++ ds') (es ++ es') old new report
    unfolding shifts more Large
    both_works = record {
      shifts = h.works.shifts ++ k.works.shifts;
      each = doors-append doors share n h.works.shifts k.works.shifts ds ds' es es' h.works.each (subst (λ j. AtDoors doors share j k.works.shifts ds' es') middle k.works.each);
      calls = subst (All (IsCall doors s new)) (sym (calls-append h.works.shifts k.works.shifts))
          (All-append (IsCall doors s new) (calls_of h.works.shifts) (calls_of k.works.shifts)
          (All-weaker (IsCall doors s r) (IsCall doors s new) (λ j c. later_call r new j seen (left_least old r w new shares h.works.pass k.works.pass is) c) (calls_of h.works.shifts) h.works.calls)
          (All-weaker (IsCall doors s w) (IsCall doors s new) (λ j c. later_call w new j seen' (right_least old r w new shares h.works.pass k.works.pass is) c) (calls_of k.works.shifts) k.works.calls));
      in_turn = All-append (λ (shift : Shift I O). InTurn shift.calls) h.works.shifts k.works.shifts h.works.in_turn k.works.in_turn;
      pass = both_go old r w new shares h.works.pass k.works.pass is seen few;
      made = both_made old r w new shares h.works.pass k.works.pass is ∙ (ap (λ l. l ++ made_since (given_of old shares) w) h.works.made
          ∙ (ap (λ l. flat_map made_by h.works.shifts ++ l) k.works.made ∙ sym (flat_map-append made_by h.works.shifts k.works.shifts)));
      failed = fault ∙ (ap (λ o. option_or o second.door_fault) h.works.failed ∙ (ap (option_or (failed_of n h.works.shifts)) (k.works.failed
          ∙ ap (λ j. failed_of j k.works.shifts) (middle ∙ ap (λ j. n + j) (sym (doors_length doors share n h.works.shifts ds es h.works.each))))
          ∙ sym (failed-append n h.works.shifts k.works.shifts)));
      spent = spent ∙ (ap (λ o. option_or o second.spent) h.works.spent ∙ (ap (option_or (first_spent (calls_of h.works.shifts))) k.works.spent
          ∙ (sym (spent-append (calls_of h.works.shifts) (calls_of k.works.shifts)) ∙ ap first_spent (sym (calls-append h.works.shifts k.works.shifts)))));
      large = subst (λ o. IfSome o (λ count. (2 ^ 62 ≤ count) × (count / 2 ≤ new.least))) (sym spent) (or_holds Large first.spent second.spent
          (if_weaker (λ count. (2 ^ 62 ≤ count) × (count / 2 ≤ r.least)) Large (λ j l. (l.0, (let x = l.1 in let y = left_least old r w new shares h.works.pass k.works.pass is in omega arith))) first.spent h.works.large)
          (if_weaker (λ count. (2 ^ 62 ≤ count) × (count / 2 ≤ w.least)) Large (λ j l. (l.0, (let x = l.1 in let y = right_least old r w new shares h.works.pass k.works.pass is in omega arith))) second.spent k.works.large));
      memory = λ e. let x = memory e in had_both h.works.shifts k.works.shifts first second report (h.works.memory x.0) (k.works.memory x.1) x.2;
    }

    pub both_halves : Half doors s share n (ds ++ ds') (es ++ es') old new report
    unfolding both_works
    both_halves = record {
      works = both_works;
      lists = subst (Lists report) (sym (flat_map-append (λ j. unplain_of j.attended) (calls_of h.works.shifts) (calls_of k.works.shifts)) ∙ ap (flat_map (λ j. unplain_of j.attended)) (sym (calls-append h.works.shifts k.works.shifts)))
          (lists (flat_map (λ j. unplain_of j.attended) (calls_of h.works.shifts)) (flat_map (λ j. unplain_of j.attended) (calls_of k.works.shifts)) h.lists k.lists);
    }

  -- the same, by what is known of the passes before and of the doors
  pub alone_as : (share : ℕ → ℕ) (own worker : ℕ) (d e : D) (old r₀ w₀ r w new : Known Entry) (report : Report) → own ≡ share worker → 1 ≤ old.shares → r₀ ≡ left_of old 1 → w₀ ≡ given_of old 1
      → Worked doors s own worker (place d r₀ w₀) (place e r w) report → new ≡ both_of r w → IsPrefix r.seen new.seen → IsPrefix w.seen new.seen
      → Half doors s share worker (d ∷ []) (e ∷ []) old new report
  alone_as share own worker d e old r₀ w₀ r w new report same few left given h =
      alone share own worker d e old r w new report same few
      (subst (λ p. Worked doors s own worker (place d p (given_of old 1)) (place e r w) report) left (subst (λ p. Worked doors s own worker (place d r₀ p) (place e r w) report) given h))

  pub halves_as : (share : ℕ → ℕ) (n m shares : ℕ) (all all' ds ds' es es' : List D) (old p q r w new : Known Entry) (first second report : Report)
      → Half doors s share n ds es p r first → Half doors s share m ds' es' q w second → p ≡ left_of old shares → q ≡ given_of old shares → all ≡ ds ++ ds' → all' ≡ es ++ es'
      → m ≡ n + length ds → shares ≤ old.shares → new ≡ both_of r w → IsPrefix r.seen new.seen → IsPrefix w.seen new.seen
      → report.door_fault ≡ option_or first.door_fault second.door_fault → report.spent ≡ option_or first.spent second.spent
      → (report.memory ≡ false → (first.memory ≡ false) × (second.memory ≡ false) × (is_some report.sessions ≡ true))
      → ((lines more : List Unplain) → Lists first lines → Lists second more → Lists report (lines ++ more))
      → Half doors s share n all all' old new report
  halves_as share n m shares all all' ds ds' es es' old p q r w new first second report h k left given was is middle few both seen seen' fault spent memory lists =
      subst (λ l. Half doors s share n l all' old new report) (sym was) (subst (λ l. Half doors s share n (ds ++ ds') l old new report) (sym is)
      (both_halves share n m shares ds ds' es es' old r w new first second report
      (subst (λ x. Half doors s share n ds es x r first) left h) (subst (λ x. Half doors s share m ds' es' x w second) given k) middle few both seen seen' fault spent memory lists))

-- a list of one
pub list_of_one : {D : Type 0} (xs : List D) (d : D) → length xs ≡ 1 → d ≡ slice_index_or xs 0 d → xs ≡ d ∷ []
list_of_one [] d e f = absurd (omega arith)
list_of_one (x ∷ []) d e f = ap (λ y. y ∷ []) (sym f)
list_of_one (x ∷ (y ∷ xs)) d e f = absurd (omega arith)

-- ---- shares

pub one_more_fits : (n m w : ℕ) → 0 < m → 0 < w → w ≤ n % m → n < 2 ^ 32 → n / m + 1 < 2 ^ 32
one_more_fits n m w some first least small = let h : n / m ≤ n / m * m = le-mul_of_pos_right (n / m) some in omega (arith, mul_comm (n / m) m)
