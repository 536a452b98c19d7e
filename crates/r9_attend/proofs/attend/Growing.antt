-- A pass after turns, and the histories that go on from what it has seen.
use Rattle.std.proofs.Common.{◌≡◌, ℕ, zero, suc, ◌+◌, ◌≤◌, ◌<◌, Bool, true, false, List, [], ◌∷◌, ◌++◌, length, drop, refl, sym, ap, ◌∙◌, subst, arith, append_assoc, ⊎_elim}
use Rattle.std.specs.Prelude.{All, Contains}
use Rattle.std.specs.List.{AllByRecursion}
use Rattle.std.proofs.Math.Seq.{drop-append_seam, drop-length}
use Rattle.std.proofs.lemmas.List.{append-nil, append_cancel_left, length-append, map-append}
use Rattle.std.proofs.lemmas.List.Elements.{All-append, All-contains, All-contains_itself, All-drop, All-weaker, All-nil, Contains-append_right, Contains-append_cases}
use Rattle.r9_event.specs.declared.event.event.Event.{Event}
use Rattle.r9_event.specs.declared.event.event.Entry.{Entry}
use Rattle.r9_event.specs.declared.event.ask.Ask.{Ask}
use Rattle.r9_event.specs.declared.event.ask.Answer.{Answer}
use Rattle.r9_lock.specs.Histories.{IsPrefix, numbered}
use Rattle.r9_lock.specs.Passes.{Known}
use Rattle.r9_lock.proofs.Lists.{prefix_refl, prefix_trans, numbered-append, Contains-numbered}
use Rattle.model_history.specs.event.Journal.{events_of}
use Rattle.model_served.specs.session.Server.{Server}
use Rattle.model_served.specs.session.Acts.{Enters}
use Rattle.r9_attend.specs.attend.Passes.{GoesOn, made_since, IsOwn, Turned}

-- ---- numbers

module _ {E : Type 0} where
  pub number_below : (n : ℕ) (xs : List E) (m : ℕ × E) → Contains (numbered n xs) m → m.0 < n + length xs
  number_below n [] m (k, within, is) = absurd (omega arith)
  number_below n (x ∷ xs) m (zero, within, is) = let h : n ≡ m.0 = ap (λ (z : ℕ × E). z.0) is in omega arith
  number_below n (x ∷ xs) m (suc k, within, is) = let h = number_below (n + 1) xs m (k, (omega arith), is) in omega arith

  pub number_above : (n : ℕ) (xs : List E) (m : ℕ × E) → Contains (numbered n xs) m → n ≤ m.0
  number_above n [] m (k, within, is) = absurd (omega arith)
  number_above n (x ∷ xs) m (zero, within, is) = let h : n ≡ m.0 = ap (λ (z : ℕ × E). z.0) is in omega arith
  number_above n (x ∷ xs) m (suc k, within, is) = let h = number_above (n + 1) xs m (k, (omega arith), is) in omega arith

  -- a test that no numbered entry passes
  pub none_numbered : (such : E → Bool) (n : ℕ) (xs : List E) → ((m : ℕ × E) → Contains (numbered n xs) m → such m.1 ≡ true → ⊥) → AllByRecursion (λ x. such x ≡ false) xs
  none_numbered such n [] none = tt
  none_numbered such n (x ∷ xs) none =
      (go (such x) refl, none_numbered such (n + 1) xs (λ m has. none m (Contains-append_right ((n, x) ∷ []) (numbered (n + 1) xs) m has)))
    where
      go : (b : Bool) → such x ≡ b → such x ≡ false
      go false e = e
      go true e = absurd (none (n, x) (zero, omega arith, refl) e)

-- ---- what was made

pub since_is : (old new : Known Entry) (xs : List (ℕ × Entry)) → new.made ≡ old.made ++ xs → made_since old new ≡ xs
since_is old new xs e = ap (drop (length old.made)) e ∙ drop-append_seam old.made xs

pub since_none : (old : Known Entry) → made_since old old ≡ []
since_none old = drop-length old.made

pub since_two : (first old new : Known Entry) → IsPrefix first.made old.made → IsPrefix old.made new.made → made_since first new ≡ made_since first old ++ made_since old new
since_two first old new p q =
    since_is first new (p.rest ++ q.rest) (q.is ∙ ap (λ l. l ++ q.rest) p.is ∙ append_assoc first.made p.rest q.rest)
    ∙ sym (ap (λ l. l ++ made_since old new) (since_is first old p.rest p.is) ∙ ap (λ l. p.rest ++ l) (since_is old new q.rest q.is))

pub goes_same : (p : Known Entry) → GoesOn p p
goes_same p = record { lock = refl; shares = refl; least = omega arith; seen = prefix_refl p.seen; made = prefix_refl p.made }

pub goes_both : (p q r : Known Entry) → GoesOn p q → GoesOn q r → GoesOn p r
goes_both p q r a b = record {
  lock = b.lock ∙ a.lock;
  shares = b.shares ∙ a.shares;
  least = let l = a.least in let m = b.least in omega arith;
  seen = prefix_trans a.seen b.seen;
  made = prefix_trans a.made b.made;
}

-- a property of all that was made
pub All-since : (P : ℕ × Entry → Type 0) (first old new : Known Entry) → GoesOn first old → GoesOn old new → All P (made_since first old) → All P (made_since old new) → All P (made_since first new)
All-since P first old new a b p q = subst (All P) (sym (since_two first old new a.made b.made)) (All-append P (made_since first old) (made_since old new) p q)

-- ---- a turn

module _ (s : Server) (ask : Ask) (answer : Answer) (old new : Known Entry) (t : Turned s ask answer old new) where
  pub turn_made : made_since old new ≡ numbered (length t.before + 1) t.entry
  turn_made = since_is old new (numbered (length t.before + 1) t.entry) t.made

  pub turn_begins : IsPrefix t.before new.seen
  turn_begins = record { rest = t.entry; is = t.seen }

  pub turn_numbers : All (λ m. m.0 ≤ length new.seen) new.made
  turn_numbers = subst (All (λ m. m.0 ≤ length new.seen)) (sym t.made)
      (All-append (λ m. m.0 ≤ length new.seen) old.made (numbered (length t.before + 1) t.entry)
      (All-weaker (λ m. m.0 ≤ length t.before) (λ m. m.0 ≤ length new.seen) (λ m l. omega (arith, ap length t.seen, length-append t.before t.entry)) old.made t.later)
      (All-weaker (Contains entries) (λ m. m.0 ≤ length new.seen) (λ m has. let b = number_below (length t.before + 1) t.entry m has in omega (arith, ap length t.seen, length-append t.before t.entry)) entries (All-contains_itself entries)))
    where
      entries : List (ℕ × Entry)
      entries = numbered (length t.before + 1) t.entry

  pub turn_entered : (event : Event) → Enters event t.before (t.before ++ t.entry) → t.entry ≡ record { number = length t.before + 1; event = event } ∷ []
  turn_entered event e = append_cancel_left t.before t.entry _ e.one_more

  pub turn_stayed : t.before ++ t.entry ≡ t.before → t.entry ≡ []
  turn_stayed e = append_cancel_left t.before t.entry [] (e ∙ sym (append-nil t.before))

  -- what the pass has seen, where this event was entered
  pub seen_entered : (event : Event) → Enters event t.before (t.before ++ t.entry) → events_of new.seen ≡ events_of t.before ++ event ∷ []
  seen_entered event e = ap events_of (t.seen ∙ e.one_more) ∙ map-append (λ (x : Entry). x.event) t.before (record { number = length t.before + 1; event = event } ∷ [])

  pub seen_stayed : t.before ++ t.entry ≡ t.before → new.seen ≡ t.before
  seen_stayed e = t.seen ∙ e

  -- an event's property is that of all that the turn made
  pub All-entered : (P : ℕ × Entry → Type 0) (event : Event) → Enters event t.before (t.before ++ t.entry) → ((n : ℕ) → P (n, record { number = n; event = event })) → All P (made_since old new)
  All-entered P event e holds = subst (All P) (sym (turn_made ∙ ap (numbered (length t.before + 1)) (turn_entered event e))) (λ k d within. one k d within)
    where
      one : All P ((length t.before + 1, record { number = length t.before + 1; event = event }) ∷ [])
      one zero d within = holds (length t.before + 1)
      one (suc k) d within = absurd (omega arith)

  pub All-stayed : (P : ℕ × Entry → Type 0) → t.before ++ t.entry ≡ t.before → All P (made_since old new)
  All-stayed P e = subst (All P) (sym (turn_made ∙ ap (numbered (length t.before + 1)) (turn_stayed e))) (All-nil P)

-- ---- histories that have no other such entries

module _ (such : Event → Bool) where
  NoneSuch : List Entry → Type 0
  NoneSuch rest = AllByRecursion (λ (x : Entry). such x.event ≡ false) rest

  -- what comes behind what the pass has seen has none
  pub record Behind (seen history : List Entry) : Type 0 where
    pub rest : List Entry
    pub is : history ≡ seen ++ rest
    pub none : AllByRecursion (λ (x : Entry). such x.event ≡ false) rest

  pub behind : (seen : List Entry) (made : List (ℕ × Entry)) (history : List Entry) → All (λ m. m.0 ≤ length seen) made → IsOwn such seen made history → Behind seen history
  behind seen made history few own = record {
    rest = own.begins.rest;
    is = own.begins.is;
    none = none_numbered (λ x. such x.event) (1 + length seen) own.begins.rest (λ m has passes.
        let in_history : Contains (numbered 1 history) m = subst (λ l. Contains l m) (sym (ap (numbered 1) own.begins.is ∙ numbered-append 1 seen own.begins.rest))
        (Contains-append_right (numbered 1 seen) (numbered (1 + length seen) own.begins.rest) m has) in
        let low = All-contains (λ m. m.0 ≤ length seen) made m few (own.own m in_history passes) in
        let high = number_above (1 + length seen) own.begins.rest m has in
        omega arith);
  }

  -- a pass that has made nothing yet
  pub behind_none : (p : Known Entry) (history : List Entry) → IsOwn such p.seen (made_since p p) history → AllByRecursion (λ (x : Entry). such x.event ≡ false) history
  behind_none p history own = none_numbered (λ x. such x.event) 1 history (λ m has passes.
      let c : Contains [] m = subst (λ l. Contains l m) (since_none p) (own.own m has passes) in let k : c.0 < 0 = c.1 in omega arith)

  -- a turn's history has no other such entries than those made before the turn
  pub own_before : (s : Server) (ask : Ask) (answer : Answer) (first old new : Known Entry) (t : Turned s ask answer old new) → GoesOn first old → GoesOn old new
      → (history : List Entry) → IsOwn such new.seen (made_since first new) history → IsOwn such old.seen (made_since first old) t.before
  own_before s ask answer first old new t a b history own = record {
    begins = t.begins;
    own = λ m has passes.
        let low = number_below 1 t.before m has in
        let in_history : Contains (numbered 1 history) m = Contains-numbered 1 (prefix_trans (turn_begins s ask answer old new t) own.begins) m has in
        let made : Contains (made_since first old ++ numbered (length t.before + 1) t.entry) m =
        subst (λ l. Contains l m) (since_two first old new a.made b.made ∙ ap (λ l. made_since first old ++ l) (turn_made s ask answer old new t)) (own.own m in_history passes) in
        ⊎_elim (λ (h : Contains (made_since first old) m). h)
        (λ (h : Contains (numbered (length t.before + 1) t.entry) m). let high = number_above (length t.before + 1) t.entry m h in absurd (omega arith))
        (Contains-append_cases (made_since first old) (numbered (length t.before + 1) t.entry) m made);
  }

  -- a history after a step that made no such entries is one after what was before
  pub own_back : (first old new : Known Entry) → GoesOn first old → GoesOn old new → All (λ m. such m.1.event ≡ false) (made_since old new)
      → (history : List Entry) → IsOwn such new.seen (made_since first new) history → IsOwn such old.seen (made_since first old) history
  own_back first old new a b none history own = record {
    begins = prefix_trans b.seen own.begins;
    own = λ m has passes.
        ⊎_elim (λ (h : Contains (made_since first old) m). h)
        (λ (h : Contains (made_since old new) m). let no = All-contains (λ (m : ℕ × Entry). such m.1.event ≡ false) (made_since old new) m none h in absurd (cc (sym passes ∙ no)))
        (Contains-append_cases (made_since first old) (made_since old new) m (subst (λ l. Contains l m) (since_two first old new a.made b.made) (own.own m has passes)));
  }

  pub since_few : (first new : Known Entry) (n : ℕ) → All (λ m. m.0 ≤ n) new.made → All (λ m. m.0 ≤ n) (made_since first new)
  since_few first new n few = All-drop (λ m. m.0 ≤ n) (length first.made) new.made few
