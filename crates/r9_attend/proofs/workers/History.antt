-- What workers did, in the history of their lock.
use Rattle.std.proofs.Common.{◌≡◌, ℕ, zero, suc, ◌+◌, ◌≤◌, ◌<◌, ◌^◌, Bool, true, false, cond, eqb, List, [], ◌∷◌, ◌++◌, length, refl, sym, ap, ◌∙◌, subst, arith, sum_by, ⊎_elim, inl, inr}
use Rattle.std.specs.Prelude.{◌⊎◌, Option, Some, None, All, Contains, IfSome, IfNone, count_by, slice_index_or}
use Rattle.std.specs.List.{flat_map}
use Rattle.std.proofs.lemmas.Bool.{eqb-true, eq-eqb}
use Rattle.std.proofs.lemmas.List.{length-map}
use Rattle.std.proofs.lemmas.List.Sums.{sum_by-cons, sum_by-append}
use Rattle.std.proofs.lemmas.List.Elements.{All-contains, Contains-get_or, Contains-append_left, Contains-append_right, Contains-append_cases}
use Rattle.r9_event.specs.declared.event.event.Event.{Event}
use Rattle.r9_event.specs.declared.event.event.Event.TheVariants.{Begin, Msg, Take, End, Stop}
use Rattle.r9_event.specs.declared.event.event.Entry.{Entry}
use Rattle.r9_event.specs.declared.event.ask.Ask.TheVariants as ask
use Rattle.r9_event.specs.declared.event.ask.Answer.TheVariants as answer
use Rattle.r9_lock.specs.Histories.{IsPrefix, numbered}
use Rattle.r9_lock.specs.Passes.{Known, IsWhole}
use Rattle.r9_lock.proofs.Lists.{is_numbered, prefix_trans}
use Rattle.model_history.specs.event.Legal.{Roll, roll_after, no_sessions, AllowedFrom, IsLegal}
use Rattle.model_history.specs.event.Journal.{events_of}
use Rattle.model_served.specs.session.Server.{Server, is_of}
use Rattle.r9_attend.specs.declared.attend.ends.ReadEnd.{ReadEnd}
use Rattle.r9_attend.specs.declared.attend.ends.ReadEnd.TheVariants.{Memory, Spent, Crowded}
use Rattle.r9_attend.specs.declared.attend.ends.WriteEnd.{WriteEnd}
use Rattle.r9_attend.specs.declared.attend.ends.WriteEnd.TheVariants as written
use Rattle.r9_attend.specs.attend.Passes.{Turned, made_since}
use Rattle.r9_attend.specs.attend.Sessions.{IsSessions, IsMade, IsTheirs}
use Rattle.r9_attend.specs.attend.Steps.{IsTold, IsSpent, NotBegun}
use Rattle.r9_attend.specs.attend.Calls.{Call, Attends, IsOfNone, IsOfSession, reader_made, writer_made}
use Rattle.r9_attend.proofs.attend.Growing.{since_is, since_none, number_above}
use Rattle.r9_attend.proofs.attend.Served.{events_has}
use Rattle.r9_attend.proofs.attend.TheSession.{begin_made}
use Rattle.r9_attend.specs.workers.Shifts.{Shift, Doors, InTurn, made_by, calls_of}
use Rattle.r9_attend.specs.workers.Serving.{IsCall, is_call_of, NoSession, IsSessionOf, IsOfHistory, InHistory}
use Rattle.r9_attend.proofs.workers.Crowds.{none_in, first_in, later_in, cases_in, in_parts}
use Rattle.r9_attend.proofs.workers.Uncrowded.{uncrowded}

-- ---- lists

module _ {X : Type 0} where
  part : (w : X → ℕ) (xs : List X) (x : X) → Contains xs x → w x ≤ sum_by w xs
  part w [] x h = absurd (none_in x h)
  part w (y ∷ xs) x h = let e = sum_by-cons w y xs in
      ⊎_elim (λ (k : y ≡ x). let a = ap w k in omega arith) (λ (k : Contains xs x). let a = part w xs x k in omega arith) (cases_in y x xs h)

  some_part : (w : X → ℕ) (xs : List X) → 0 < sum_by w xs → (x : X) × Contains xs x × (0 < w x)
  some_part w [] h = absurd (omega arith)
  some_part w (y ∷ xs) h = go (w y) refl (λ k. some_part w xs k)
    where
      go : (n : ℕ) → w y ≡ n → (0 < sum_by w xs → (x : X) × Contains xs x × (0 < w x)) → (x : X) × Contains (y ∷ xs) x × (0 < w x)
      go zero e later = let a = later (let c = sum_by-cons w y xs in omega arith) in (a.0, later_in y a.0 xs a.1, a.2)
      go (suc n) e later = (y, first_in y y xs refl, omega arith)

  weight : (X → Bool) → X → ℕ
  weight p v = cond (p v) 1 0

  -- at most one element passes the test
  only_one : (p : X → Bool) (xs : List X) (x y : X) → count_by p xs ≤ 1 → Contains xs x → Contains xs y → p x ≡ true → p y ≡ true → x ≡ y
  unfolding weight
  only_one p [] x y few h k a b = absurd (none_in x h)
  only_one p (z ∷ xs) x y few h k a b = ⊎_elim
      (λ (e : z ≡ x). ⊎_elim (λ (f : z ≡ y). sym e ∙ f) (λ (f : Contains xs y). absurd (two x y e a f b)) (cases_in z y xs k))
      (λ (e : Contains xs x). ⊎_elim (λ (f : z ≡ y). absurd (two y x f b e a)) (λ (f : Contains xs y). only_one p xs x y (let c = sum_by-cons (λ (v : X). let n : ℕ = cond (p v) 1 0 in n) z xs in omega arith) e f a b) (cases_in z y xs k))
      (cases_in z x xs h)
    where
      one : (v : X) → p v ≡ true → weight p v ≡ 1
      one v e = ap (λ (t : Bool). let n : ℕ = cond t 1 0 in n) e

      two : (v u : X) → z ≡ v → p v ≡ true → Contains xs u → p u ≡ true → ⊥
      two v u e pv has pu = let a = one z (ap p e ∙ pv) in let b = one u pu in let c = part (weight p) xs u has in let t = sum_by-cons (weight p) z xs in let f : sum_by (weight p) (z ∷ xs) ≤ 1 = few in omega arith

module _ {X Y : Type 0} (f : X → List Y) where
  parts_in : (xs : List X) (x : X) (y : Y) → Contains xs x → Contains (f x) y → Contains (flat_map f xs) y
  parts_in [] x y h k = absurd (none_in x h)
  parts_in (z ∷ xs) x y h k = ⊎_elim (λ (e : z ≡ x). Contains-append_left (f z) (flat_map f xs) y (subst (λ v. Contains (f v) y) (sym e) k))
      (λ (e : Contains xs x). Contains-append_right (f z) (flat_map f xs) y (parts_in xs x y e k)) (cases_in z x xs h)

-- ---- numbered entries

module _ {E : Type 0} where
  same_number : (n : ℕ) (xs : List E) (a b : ℕ × E) → Contains (numbered n xs) a → Contains (numbered n xs) b → a.0 ≡ b.0 → a ≡ b
  same_number n [] a b h k e = absurd (none_in a h)
  same_number n (x ∷ xs) a b h k e = ⊎_elim
      (λ (p : (n, x) ≡ a). ⊎_elim (λ (q : (n, x) ≡ b). sym p ∙ q) (λ (q : Contains (numbered (n + 1) xs) b). let u = number_above (n + 1) xs b q in let v : n ≡ a.0 = ap (λ (z : ℕ × E). z.0) p in absurd (omega arith)) (cases_in (n, x) b (numbered (n + 1) xs) k))
      (λ (p : Contains (numbered (n + 1) xs) a). ⊎_elim (λ (q : (n, x) ≡ b). let u = number_above (n + 1) xs a p in let v : n ≡ b.0 = ap (λ (z : ℕ × E). z.0) q in absurd (omega arith)) (λ (q : Contains (numbered (n + 1) xs) b). same_number (n + 1) xs a b p q e) (cases_in (n, x) b (numbered (n + 1) xs) k))
      (cases_in (n, x) a (numbered (n + 1) xs) h)

numbered_event : (n : ℕ) (xs : List Entry) (event : Event) → Contains (events_of xs) event → (m : ℕ × Entry) × Contains (numbered n xs) m × (m.1.event ≡ event)
numbered_event n [] event h = absurd (none_in event h)
numbered_event n (x ∷ xs) event h = ⊎_elim (λ (e : x.event ≡ event). ((n, x), first_in (n, x) (n, x) (numbered (n + 1) xs) refl, e))
    (λ (k : Contains (events_of xs) event). let r = numbered_event (n + 1) xs event k in (r.0, later_in (n, x) r.0 (numbered (n + 1) xs) r.1, r.2)) (cases_in x.event event (events_of xs) h)

event_numbered : (n : ℕ) (xs : List Entry) (m : ℕ × Entry) → Contains (numbered n xs) m → Contains (events_of xs) m.1.event
event_numbered n [] m h = absurd (none_in m h)
event_numbered n (x ∷ xs) m h = ⊎_elim (λ (e : (n, x) ≡ m). first_in x.event m.1.event (events_of xs) (ap (λ (z : ℕ × Entry). z.1.event) e))
    (λ (k : Contains (numbered (n + 1) xs) m). later_in x.event m.1.event (events_of xs) (event_numbered (n + 1) xs m k)) (cases_in (n, x) m (numbered (n + 1) xs) h)

-- ---- a session begins once

begin_weight : (c : ℕ) → Event → ℕ
begin_weight c (Begin d) = cond (eqb d c) 1 0
begin_weight c (Msg d bytes mark) = 0
begin_weight c (Take d) = 0
begin_weight c (End d) = 0
begin_weight c Stop = 0

begins : (c : ℕ) → ℕ × Entry → ℕ
begins c m = begin_weight c m.1.event

unbegun : (c : ℕ) (event : Event) (roll : Roll) → AllowedFrom roll (event ∷ []) → c ≤ roll.begun → (begin_weight c event ≡ 0) × (c ≤ (roll_after roll event).begun)
unfolding begin_weight
unbegun c (Begin d) roll may low = (go (eqb d c) refl, (let e = may.0.1.0 in omega arith))
  where
    go : (b : Bool) → eqb d c ≡ b → begin_weight c (Begin d) ≡ 0
    go false e = ap (λ (t : Bool). let n : ℕ = cond t 1 0 in n) e
    go true e = let same = eqb-true d c e in let next = may.0.1.0 in absurd (omega arith)
unbegun c (Msg d bytes mark) roll may low = (refl, low)
unbegun c (Take d) roll may low = (refl, low)
unbegun c (End d) roll may low = (refl, low)
unbegun c Stop roll may low = (refl, low)

none_begins : (c n : ℕ) (roll : Roll) (xs : List Entry) → AllowedFrom roll (events_of xs) → c ≤ roll.begun → sum_by (begins c) (numbered n xs) ≡ 0
unfolding begins
none_begins c n roll [] may low = refl
none_begins c n roll (x ∷ xs) may low = let h = unbegun c x.event roll (may.0, tt) low in
    let later = none_begins c (n + 1) (roll_after roll x.event) xs may.1 h.1 in
    let e = sum_by-cons (begins c) (n, x) (numbered (n + 1) xs) in let z : begins c (n, x) ≡ 0 = h.0 in omega arith

one_begins : (c n : ℕ) (roll : Roll) (xs : List Entry) → AllowedFrom roll (events_of xs) → sum_by (begins c) (numbered n xs) ≤ 1
unfolding begins begin_weight
one_begins c n roll [] may = omega arith
one_begins c n roll (x ∷ xs) may = go x.event refl (one_begins c (n + 1) (roll_after roll x.event) xs may.1) (λ low. none_begins c (n + 1) (roll_after roll x.event) xs may.1 low)
  where
    total : sum_by (begins c) (numbered n (x ∷ xs)) ≡ begins c (n, x) + sum_by (begins c) (numbered (n + 1) xs)
    total = sum_by-cons (begins c) (n, x) (numbered (n + 1) xs)

    none : sum_by (begins c) (numbered (n + 1) xs) ≤ 1 → begin_weight c x.event ≡ 0 → sum_by (begins c) (numbered n (x ∷ xs)) ≤ 1
    none l z = let t = total in let y : begins c (n, x) ≡ 0 = z in omega arith

    go : (event : Event) → x.event ≡ event → sum_by (begins c) (numbered (n + 1) xs) ≤ 1 → (c ≤ (roll_after roll x.event).begun → sum_by (begins c) (numbered (n + 1) xs) ≡ 0) → sum_by (begins c) (numbered n (x ∷ xs)) ≤ 1
    go (Begin d) e l z = test (eqb d c) refl
      where
        test : (b : Bool) → eqb d c ≡ b → sum_by (begins c) (numbered n (x ∷ xs)) ≤ 1
        test false f = none l (ap (begin_weight c) e ∙ ap (λ (t : Bool). let m : ℕ = cond t 1 0 in m) f)
        test true f = let same = eqb-true d c f in let t = total in
            let begun : (roll_after roll x.event).begun ≡ d = ap (λ v. (roll_after roll v).begun) e in
            let k = z (omega arith) in
            let y : begins c (n, x) ≡ 1 = ap (begin_weight c) e ∙ ap (λ (t : Bool). let m : ℕ = cond t 1 0 in m) f in omega arith
    go (Msg d bytes mark) e l z = none l (ap (begin_weight c) e)
    go (Take d) e l z = none l (ap (begin_weight c) e)
    go (End d) e l z = none l (ap (begin_weight c) e)
    go Stop e l z = none l (ap (begin_weight c) e)

-- an event is of one session
of_one : (c d : ℕ) (event : Event) → is_of d event ≡ true → is_of c event ≡ true → d ≡ c
of_one c d (Begin n) e f = sym (eqb-true n d e) ∙ eqb-true n c f
of_one c d (Msg n bytes mark) e f = sym (eqb-true n d e) ∙ eqb-true n c f
of_one c d (Take n) e f = sym (eqb-true n d e) ∙ eqb-true n c f
of_one c d (End n) e f = sym (eqb-true n d e) ∙ eqb-true n c f
of_one c d Stop e f = absurd cc

not_stop : (c : ℕ) (event : Event) → event ≡ Stop → is_of c event ≡ true → ⊥
not_stop c event e f = let wrong : true ≡ false = sym f ∙ ap (is_of c) e in cc

-- ---- no session

-- the cause that both ends of a call without a session name
no_session : (s : Server) (old new : Known Entry) (history : List Event) → new.least ≤ length history → (Turned s ask.Begin answer.Crowded old new → ⊥) → (read : ReadEnd) (write : WriteEnd) → NotBegun s read write old new
    → NoSession history read write
no_session s old new history few never Crowded written.Crowded h = never h
no_session s old new history few never Memory written.Memory h = tt
no_session s old new history few never (Spent count) (written.Spent same) h = (h.0, (h.1.large, (let l = h.1.least in omega arith)))
no_session s old new history few never _ _ h = absurd h

-- ---- calls

module _ {D I O : Type 0} (doors : Doors D I O) (s : Server) where
  Makes : Call I O → ℕ × Entry → Type 0
  Makes k m = Contains (reader_made k) m ⊎ Contains (writer_made k) m

  -- what a call made is of its session
  makers : (k : Call I O) → Attends doors.ends s k → (c : ℕ) (m : ℕ × Entry) → Contains (reader_made k) m ⊎ Contains (writer_made k) m → is_of c m.1.event ≡ true → k.attended.session ≡ Some c
  makers k a c m made of = go k.attended.session a.none a.some
    where
      sessions : (d : ℕ) → IsSessions d m → Some d ≡ Some c
      sessions d h = ⊎_elim (λ (e : is_of d m.1.event ≡ true). ap Some (of_one c d m.1.event e of)) (λ (e : m.1.event ≡ Stop). absurd (not_stop c m.1.event e of)) h

      go : (o : Option ℕ) → IfNone o (IsOfNone doors.ends s k) → IfSome o (IsOfSession doors.ends s k) → o ≡ Some c
      go None none some = ⊎_elim (λ (h : Contains (reader_made k) m). absurd (not_stop c m.1.event (All-contains (λ (j : ℕ × Entry). j.1.event ≡ Stop) (reader_made k) m none.reader_made h) of))
          (λ (h : Contains (writer_made k) m). absurd (none_in m (subst (λ l. Contains l m) (ap (made_since k.writer_old) none.writer_same ∙ since_none k.writer_old) h))) made
      go (Some d) none some = ⊎_elim (λ (h : Contains (reader_made k) m). sessions d (All-contains (IsSessions d) (reader_made k) m some.reader_made h))
          (λ (h : Contains (writer_made k) m). sessions d (All-contains (IsSessions d) (writer_made k) m some.writer_made h)) made

  -- a call of session c made its begin
  began : (k : Call I O) → Attends doors.ends s k → (c : ℕ) → is_call_of c k.attended.session ≡ true → IsMade (reader_made k) (Begin c)
  began k a c is = go k.attended.session is a.some
    where
      go : (o : Option ℕ) → is_call_of c o ≡ true → IfSome o (IsOfSession doors.ends s k) → IsMade (reader_made k) (Begin c)
      go None e some = absurd cc
      go (Some d) e some = subst (λ n. IsMade (reader_made k) (Begin n)) (eqb-true d c e) (begin_made s d k.reader_old k.reader some.began)

  call_weight : (c : ℕ) → Call I O → ℕ
  call_weight c k = cond (is_call_of c k.attended.session) 1 0

  begun_by : (c : ℕ) (k : Call I O) → Attends doors.ends s k → call_weight c k ≤ sum_by (begins c) (reader_made k)
  unfolding call_weight begins begin_weight
  begun_by c k a = go (is_call_of c k.attended.session) refl
    where
      go : (b : Bool) → is_call_of c k.attended.session ≡ b → call_weight c k ≤ sum_by (begins c) (reader_made k)
      go false e = let z : call_weight c k ≡ 0 = ap (λ (t : Bool). let n : ℕ = cond t 1 0 in n) e in omega arith
      go true e = let b = began k a c e in let y = part (begins c) (reader_made k) b.0 b.1 in
          let w : begins c b.0 ≡ 1 = ap (begin_weight c) b.2 ∙ ap (λ (t : Bool). let n : ℕ = cond t 1 0 in n) (eq-eqb c c refl) in
          let z : call_weight c k ≡ 1 = ap (λ (t : Bool). let n : ℕ = cond t 1 0 in n) e in omega arith

  begun_by_all : (c : ℕ) (calls : List (Call I O)) → ((k : Call I O) → Contains calls k → Attends doors.ends s k) → sum_by (call_weight c) calls ≤ sum_by (begins c) (flat_map reader_made calls)
  begun_by_all c [] each = omega arith
  begun_by_all c (k ∷ calls) each = let e = sum_by-cons (call_weight c) k calls in let f = sum_by-append (begins c) (reader_made k) (flat_map reader_made calls) in
      let a = begun_by c k (each k (first_in k k calls refl)) in let b = begun_by_all c calls (λ j h. each j (later_in k j calls h)) in omega arith

  begun_by_shifts : (c : ℕ) (shifts : List (Shift I O)) → ((k : Call I O) → Contains (calls_of shifts) k → Attends doors.ends s k) → sum_by (call_weight c) (calls_of shifts) ≤ sum_by (begins c) (flat_map made_by shifts)
  begun_by_shifts c [] each = omega arith
  begun_by_shifts c (x ∷ shifts) each =
      let e = sum_by-append (call_weight c) x.calls (calls_of shifts) in let f = sum_by-append (begins c) (made_by x) (flat_map made_by shifts) in
      let g = sum_by-append (begins c) (flat_map reader_made x.calls) (flat_map writer_made x.calls) in
      let a = begun_by_all c x.calls (λ j h. each j (Contains-append_left x.calls (calls_of shifts) j h)) in
      let b = begun_by_shifts c shifts (λ j h. each j (Contains-append_right x.calls (calls_of shifts) j h)) in omega arith

  -- who made an entry
  maker : (shifts : List (Shift I O)) (m : ℕ × Entry) → Contains (flat_map made_by shifts) m → (k : Call I O) × Contains (calls_of shifts) k × (Contains (reader_made k) m ⊎ Contains (writer_made k) m)
  maker shifts m h = let x = in_parts made_by shifts m h in
      ⊎_elim (λ (r : Contains (flat_map reader_made x.0.calls) m). let k = in_parts reader_made x.0.calls m r in (k.0, parts_in (λ (shift : Shift I O). shift.calls) shifts x.0 k.0 x.1 k.1, inl k.2))
      (λ (w : Contains (flat_map writer_made x.0.calls) m). let k = in_parts writer_made x.0.calls m w in (k.0, parts_in (λ (shift : Shift I O). shift.calls) shifts x.0 k.0 x.1 k.1, inr k.2))
      (Contains-append_cases (flat_map reader_made x.0.calls) (flat_map writer_made x.0.calls) m x.2)

  made_reader : (shifts : List (Shift I O)) (k : Call I O) (m : ℕ × Entry) → Contains (calls_of shifts) k → Contains (reader_made k) m → Contains (flat_map made_by shifts) m
  made_reader shifts k m has h = let x = in_parts (λ (shift : Shift I O). shift.calls) shifts k has in
      parts_in made_by shifts x.0 m x.1 (Contains-append_left (flat_map reader_made x.0.calls) (flat_map writer_made x.0.calls) m (parts_in reader_made x.0.calls k m x.2 h))

  module _ {T : Type 0} (stands : T → List Entry → Type 0) (before after : Known Entry) (value : T) (history : List Entry) (shifts : List (Shift I O)) (empty : before.made ≡ []) (goes : IsPrefix before.made after.made)
      (made : made_since before after ≡ flat_map made_by shifts) (each : All (IsCall doors s after) (calls_of shifts)) (in_turn : All (λ (shift : Shift I O). InTurn shift.calls) shifts)
      (workers : length shifts < 1024) (short : length (calls_of shifts) < 2 ^ 32) (whole : IsWhole stands value history after) (legal : IsLegal (events_of history)) where
    call : (k : Call I O) → Contains (calls_of shifts) k → IsCall doors s after k
    call k h = All-contains (IsCall doors s after) (calls_of shifts) k each h

    all_made : after.made ≡ flat_map made_by shifts
    all_made = goes.is ∙ (ap (λ l. l ++ goes.rest) empty ∙ (sym (since_is before after goes.rest goes.is) ∙ made))

    weighed : (w : ℕ × Entry → ℕ) → sum_by w (flat_map made_by shifts) ≡ sum_by w (numbered 1 history)
    weighed w = ap (sum_by w) (sym all_made) ∙ whole.weighed w

    in_history : (m : ℕ × Entry) → Contains (flat_map made_by shifts) m → Contains (numbered 1 history) m
    in_history m h = All-contains (Contains (numbered 1 history)) after.made m whole.made (subst (λ l. Contains l m) (sym all_made) h)

    by_workers : (m : ℕ × Entry) → Contains (numbered 1 history) m → Contains (flat_map made_by shifts) m
    by_workers m h =
        let one : is_numbered m.0 m ≡ 1 = ap (λ (t : Bool). let n : ℕ = cond t 1 0 in n) (eq-eqb m.0 m.0 refl) in
        let p = part (is_numbered m.0) (numbered 1 history) m h in
        let e = weighed (is_numbered m.0) in
        let found = some_part (is_numbered m.0) (flat_map made_by shifts) (omega arith) in
        subst (Contains (flat_map made_by shifts)) (same_number 1 history found.0 m (in_history found.0 found.1) h (number found.0 found.2)) found.1
      where
        number : (j : ℕ × Entry) → 0 < is_numbered m.0 j → j.0 ≡ m.0
        number j = go (eqb j.0 m.0) refl
          where
            go : (b : Bool) → eqb j.0 m.0 ≡ b → 0 < is_numbered m.0 j → j.0 ≡ m.0
            go true e some = eqb-true j.0 m.0 e
            go false e some = let z : is_numbered m.0 j ≡ 0 = ap (λ (t : Bool). let n : ℕ = cond t 1 0 in n) e in absurd (omega arith)

    few : (c : ℕ) → sum_by (call_weight c) (calls_of shifts) ≤ 1
    few c = let a = begun_by_shifts c shifts (λ k h. (call k h).attends) in let b = weighed (begins c) in let l = one_begins c 1 no_sessions history legal in omega arith

    is_its : (c : ℕ) (o : Option ℕ) → o ≡ Some c → is_call_of c o ≡ true
    is_its c o e = ap (is_call_of c) e ∙ eq-eqb c c refl

    -- a session that has begun is that of a call
    its : (c : ℕ) → Contains (events_of history) (Begin c) → (k : Call I O) × Contains (calls_of shifts) k × (k.attended.session ≡ Some c)
    its c h = let m = numbered_event 1 history (Begin c) h in let k = maker shifts m.0 (by_workers m.0 m.1) in
        (k.0, k.1, makers k.0 (call k.0 k.1).attends c m.0 k.2 (ap (is_of c) m.2 ∙ eq-eqb c c refl))

    count : (c : ℕ) → Contains (events_of history) (Begin c) → count_by (λ (k : Call I O). is_call_of c k.attended.session) (calls_of shifts) ≡ 1
    unfolding call_weight
    count c h = let k = its c h in let is = is_its c k.0.attended.session k.2 in
        let w : call_weight c k.0 ≡ 1 = ap (λ (t : Bool). let n : ℕ = cond t 1 0 in n) is in
        let p = part (call_weight c) (calls_of shifts) k.0 k.1 in let f = few c in omega arith

    theirs : (k : Call I O) → Contains (calls_of shifts) k → (c : ℕ) → k.attended.session ≡ Some c → IsTheirs c k.reader_old k.reader k.writer_old k.writer history
    unfolding call_weight
    theirs k has c is = record {
      reader_seen = prefix_trans (call k has).reader_seen whole.seen;
      writer_seen = prefix_trans (call k has).writer_seen whole.seen;
      theirs = λ m h e. let j = maker shifts m (by_workers m h) in
          let other = is_its c j.0.attended.session (makers j.0 (call j.0 j.1).attends c m j.2 e) in
          let same : j.0 ≡ k = only_one (λ (v : Call I O). is_call_of c v.attended.session) (calls_of shifts) j.0 k (few c) j.1 has other (is_its c k.attended.session is) in
          both k m (subst (λ v. Contains (reader_made v) m ⊎ Contains (writer_made v) m) same j.2);
    }
      where
        both : (v : Call I O) (m : ℕ × Entry) → Contains (reader_made v) m ⊎ Contains (writer_made v) m → Contains (reader_made v ++ writer_made v) m
        both v m h = ⊎_elim (λ (r : Contains (reader_made v) m). Contains-append_left (reader_made v) (writer_made v) m r) (λ (w : Contains (writer_made v) m). Contains-append_right (reader_made v) (writer_made v) m w) h

    -- what a call's reader has seen stands in the history, which has as many entries as its passes know of
    reader_in : (k : Call I O) → Contains (calls_of shifts) k → IsPrefix k.reader.seen history
    reader_in k has = prefix_trans (call k has).reader_seen whole.seen

    events_long : length (events_of history) ≡ length history
    events_long = length-map history (λ (entry : Entry). entry.event)

    reader_few : (k : Call I O) → Contains (calls_of shifts) k → k.reader.least ≤ length (events_of history)
    reader_few k has = let a = (call k has).reader_least in let b = whole.least in let e = events_long in omega arith

    writer_few : (k : Call I O) → Contains (calls_of shifts) k → k.writer.least ≤ length (events_of history)
    writer_few k has = let a = (call k has).writer_least in let b = whole.least in let e = events_long in omega arith

    in_session : (k : Call I O) → Contains (calls_of shifts) k → (c : ℕ) → k.attended.session ≡ Some c → IsOfSession doors.ends s k c → IsSessionOf doors s (events_of history) k c
    in_session k has c is some = record {
      begun = let m = begin_made s c k.reader_old k.reader some.began in subst (Contains (events_of history)) m.2 (event_numbered 1 history m.0 (in_history m.0 (made_reader shifts k m.0 has m.1)));
      ended = ⊎_elim (λ (h : Contains (events_of k.reader.seen) (End c)). inl (events_has (End c) (reader_in k has) h))
          (λ (h : Contains (events_of k.reader.seen) Stop ⊎ (2 ^ 61 ≤ k.reader.least)). inr (⊎_elim (λ (j : Contains (events_of k.reader.seen) Stop). inl (events_has Stop (reader_in k has) j))
          (λ (j : 2 ^ 61 ≤ k.reader.least). let l = reader_few k has in inr (omega arith)) h)) some.ended;
      closed = λ e. (events_has (End c) (reader_in k has) (subst (λ end. IsTold s c end k.reader) e some.told.0), (some.closed e history (theirs k has c is)).1);
      read_spent = λ n e. let t : IsTold s c (Spent n) k.reader = subst (λ end. IsTold s c end k.reader) e some.told.0 in let m = t.1 in let l = reader_few k has in (t.0, omega arith);
      write_spent = λ n e. let t : IsSpent (written.Spent n) k.writer = subst (λ end. IsSpent end k.writer) e some.told.1 in let m = t.1 in let l = writer_few k has in (t.0, omega arith);
      uncrowded = λ e. subst (λ end. IsTold s c end k.reader) e some.told.0;
      holds = some.holds history (theirs k has c is);
    }

    holds : (k : Call I O) → Contains (calls_of shifts) k → IsOfHistory doors s (events_of history) k
    holds k has = record { some = some_in k.attended.session refl (call k has).attends.some; none = none_of k.attended.session refl (call k has).attends.none }
      where
        some_in : (o : Option ℕ) → k.attended.session ≡ o → IfSome o (IsOfSession doors.ends s k) → IfSome o (IsSessionOf doors s (events_of history) k)
        some_in None is some = tt
        some_in (Some c) is some = in_session k has c is some

        none_of : (o : Option ℕ) → k.attended.session ≡ o → IfNone o (IsOfNone doors.ends s k) → IfNone o (NoSession (events_of history) k.attended.reader k.attended.writer)
        none_of None is none = no_session s k.reader_old k.reader (events_of history) (reader_few k has)
            (uncrowded doors s history legal shifts (λ j h. (call j h).attends) reader_in its in_turn workers short k has is) k.attended.reader k.attended.writer none.cause
        none_of (Some c) is none = tt

    pub told : InHistory doors s (events_of history) (calls_of shifts)
    told = record { once = count; each = all_contained (IsOfHistory doors s (events_of history)) (calls_of shifts) holds }
      where
        all_contained : (P : Call I O → Type 0) (xs : List (Call I O)) → ((k : Call I O) → Contains xs k → P k) → All P xs
        all_contained P xs f k d within = f (slice_index_or xs k d) (Contains-get_or xs k d within)
