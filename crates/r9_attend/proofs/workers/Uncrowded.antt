-- Where each of few workers attends to one session after the other, no begin is refused since too many sessions live or have begun.
use Rattle.std.proofs.Common.{◌≡◌, ℕ, zero, suc, ◌+◌, ◌-◌, ◌≤◌, ◌<◌, ◌^◌, false, true, List, length, get_or, refl, sym, ap, ◌∙◌, subst, arith, ⊎_elim, inl, inr}
use Rattle.std.specs.Prelude.{◌⊎◌, Some, None, All, Contains, IfSome}
use Rattle.std.proofs.lemmas.Bool.{cases_lt}
use Rattle.std.proofs.lemmas.List.{get_or_default}
use Rattle.std.proofs.lemmas.List.Elements.{All-contains}
use Rattle.r9_event.specs.declared.event.event.Event.TheVariants.{Begin, End, Stop}
use Rattle.r9_event.specs.declared.event.event.Entry.{Entry}
use Rattle.r9_event.specs.declared.event.ask.Ask.TheVariants as ask
use Rattle.r9_event.specs.declared.event.ask.Answer.TheVariants as answer
use Rattle.r9_lock.specs.Histories.{IsPrefix}
use Rattle.r9_lock.proofs.Lists.{prefix_both, prefix_trans}
use Rattle.model_history.specs.event.Legal.{Roll, IsLegal, no_sessions, roll_from, roll_of}
use Rattle.model_history.specs.event.Journal.{events_of}
use Rattle.model_served.specs.session.Server.{Server}
use Rattle.r9_attend.specs.attend.Passes.{Turned}
use Rattle.r9_attend.specs.attend.Calls.{Call, Attends, IsOfSession}
use Rattle.r9_attend.proofs.attend.Served.{events_has, events_prefix}
use Rattle.r9_attend.specs.workers.Shifts.{Shift, Doors, ComesBefore, InTurn, calls_of}
use Rattle.r9_attend.proofs.workers.Crowds.{IsSound, none_in, no_more, in_parts, down, down_length, down_within, down_distinct, legal-append, roll-append, sound, more_begun, has_begun, lives_begun, ended_gone, stopped_by}

-- the roll before all histories
none_live : IsSound no_sessions
none_live = record { begun = λ c has. absurd (none_in c has); apart = tt }

front_legal : {xs ys : List Entry} → IsPrefix xs ys → IsLegal (events_of ys) → IsLegal (events_of xs)
front_legal {xs} {ys} p legal = let q = events_prefix p in (legal-append no_sessions (events_of xs) q.rest (subst IsLegal q.is legal)).0

begun_grows : {xs ys : List Entry} → IsPrefix xs ys → IsLegal (events_of ys) → (roll_of (events_of xs)).begun ≤ (roll_of (events_of ys)).begun
begun_grows {xs} {ys} p legal =
    let q = events_prefix p in
    let rest = (legal-append no_sessions (events_of xs) q.rest (subst IsLegal q.is legal)).1 in
    let more = more_begun (roll_of (events_of xs)) q.rest rest in
    let same : (roll_of (events_of ys)).begun ≡ (roll_from (roll_of (events_of xs)) q.rest).begun = ap (λ events. (roll_of events).begun) q.is ∙ ap (λ (r : Roll). r.begun) (roll-append no_sessions (events_of xs) q.rest) in
    subst (λ n. (roll_of (events_of xs)).begun ≤ n) (sym same) more

-- of two calls of a worker one comes before the other
module _ {I O : Type 0} where
  ordered : (calls : List (Call I O)) → InTurn calls → (a b : Call I O) → Contains calls a → Contains calls b → ComesBefore a b ⊎ (ComesBefore b a ⊎ (a ≡ b))
  ordered calls turns a b (i, within, is) (j, inside, are) = ⊎_elim
      (λ (l : i < j). inl (subst (λ v. ComesBefore v b) is (subst (ComesBefore (get_or calls i a)) (get_or_default calls j a b inside ∙ are) (turns i j a l inside))))
      (λ (l : j ≤ i). inr (⊎_elim
      (λ (k : j < i). inl (subst (λ v. ComesBefore v a) are (subst (ComesBefore (get_or calls j b)) (get_or_default calls i b a within ∙ is) (turns j i b k within))))
      (λ (k : i ≤ j). let same : i ≡ j = omega arith in inr (sym is ∙ (ap (λ n. get_or calls n a) same ∙ (get_or_default calls j a b inside ∙ are))))
      (cases_lt j i)))
      (cases_lt i j)

module _ {D I O : Type 0} (doors : Doors D I O) (s : Server) (history : List Entry) (legal : IsLegal (events_of history)) (shifts : List (Shift I O))
    (attends : (k : Call I O) → Contains (calls_of shifts) k → Attends doors.ends s k) (seen : (k : Call I O) → Contains (calls_of shifts) k → IsPrefix k.reader.seen history)
    (its : (c : ℕ) → Contains (events_of history) (Begin c) → (k : Call I O) × Contains (calls_of shifts) k × (k.attended.session ≡ Some c))
    (in_turn : All (λ (shift : Shift I O). InTurn shift.calls) shifts) where
  of_session : (k : Call I O) → Contains (calls_of shifts) k → (c : ℕ) → k.attended.session ≡ Some c → IsOfSession doors.ends s k c
  of_session k has c is = subst (λ o. IfSome o (IsOfSession doors.ends s k)) is (attends k has).some

  module _ (before : List Entry) (begins : IsPrefix before history) (on : (roll_of (events_of before)).stopped ≡ false) where
    abbrev Lives : ℕ → Type 0
    Lives c = Contains (roll_of (events_of before)).live c

    roll_sound : IsSound (roll_of (events_of before))
    roll_sound = sound no_sessions (events_of before) (front_legal begins legal) none_live

    -- A later call's session began behind all that the earlier one's pass had seen. So where it lives, that pass had seen more than this front
    -- of the history.
    not_yet : (k j : Call I O) → Contains (calls_of shifts) k → Contains (calls_of shifts) j → (d : ℕ) → j.attended.session ≡ Some d → Lives d → ComesBefore k j → (IsPrefix k.reader.seen before → ⊥) → ⊥
    not_yet k j has has' d is live order beyond =
        let own = of_session j has' d is in
        let turn = own.began.turn in
        let longer : length before ≤ length k.reader.seen = ⊎_elim
        (λ (l : length before < length k.reader.seen). omega arith)
        (λ (l : length k.reader.seen ≤ length before). absurd (beyond (prefix_both (seen k has) begins l)))
        (cases_lt (length before) (length k.reader.seen)) in
        let front : IsPrefix before turn.before = prefix_trans (prefix_both begins (seen k has) longer) (prefix_trans order.seen turn.begins) in
        let whole : IsPrefix turn.before history = prefix_trans (record { rest = turn.entry; is = turn.seen }) (prefix_trans own.began.on.seen (seen j has')) in
        let grown = begun_grows front (front_legal whole legal) in
        let low = roll_sound.begun d live in
        omega (arith, grown, low, turn.may.allowed.1.0)

    -- two sessions of calls of which one comes before the other do not both live
    one_lives : (k j : Call I O) → Contains (calls_of shifts) k → Contains (calls_of shifts) j → (c d : ℕ) → k.attended.session ≡ Some c → j.attended.session ≡ Some d → Lives c → Lives d → ComesBefore k j → ⊥
    one_lives k j has has' c d is is' live live' order = ⊎_elim
        (λ (h : Contains (events_of k.reader.seen) (End c)). not_yet k j has has' d is' live' order (λ p. ended_gone c no_sessions (events_of before) none_live (front_legal begins legal) (events_has (End c) p h) live))
        (λ (h : Contains (events_of k.reader.seen) Stop ⊎ (2 ^ 61 ≤ k.reader.least)). ⊎_elim
        (λ (t : Contains (events_of k.reader.seen) Stop). not_yet k j has has' d is' live' order
        (λ p. let wrong : true ≡ false = sym (stopped_by no_sessions (events_of before) (events_has Stop p t)) ∙ on in absurd (cc wrong)))
        (λ (l : 2 ^ 61 ≤ k.reader.least). let turn = (of_session j has' d is').began.turn in omega (arith, l, order.least, turn.known, turn.few)) h)
        (of_session k has c is).ended

    -- a worker with a call of the session
    abbrev Attended : ℕ → Shift I O → Type 0
    Attended c shift = Contains shifts shift × ((k : Call I O) × Contains (calls_of shifts) k × Contains shift.calls k × (k.attended.session ≡ Some c))

    its_worker : (c : ℕ) → Lives c → (shift : Shift I O) × Contains shifts shift × Attended c shift
    its_worker c live =
        let begun : Contains (events_of before) (Begin c) = ⊎_elim (λ (h : Contains no_sessions.live c). absurd (none_in c h)) (λ (h : Contains (events_of before) (Begin c)). h) (lives_begun c no_sessions (events_of before) live) in
        let k = its c (events_has (Begin c) begins begun) in
        let x = in_parts (λ (shift : Shift I O). shift.calls) shifts k.0 k.1 in
        (x.0, x.1, (x.1, (k.0, k.1, x.2, k.2)))

    one_of_worker : (c d : ℕ) (shift : Shift I O) → Lives c → Lives d → Attended c shift → Attended d shift → c ≡ d
    one_of_worker c d shift live live' h g =
        let k = h.1 in let j = g.1 in
        ⊎_elim
        (λ (o : ComesBefore k.0 j.0). absurd (one_lives k.0 j.0 k.1 j.1 c d k.3 j.3 live live' o))
        (λ (r : ComesBefore j.0 k.0 ⊎ (k.0 ≡ j.0)). ⊎_elim
        (λ (o : ComesBefore j.0 k.0). absurd (one_lives j.0 k.0 j.1 k.1 d c j.3 k.3 live' live o))
        (λ (e : k.0 ≡ j.0). let both : Some c ≡ Some d = sym k.3 ∙ (ap (λ (v : Call I O). v.attended.session) e ∙ j.3) in cc both) r)
        (ordered shift.calls (All-contains (λ (x : Shift I O). InTurn x.calls) shifts shift in_turn h.0) k.0 j.0 k.2 j.2)

    -- no more sessions live than there are workers
    few_live : length (roll_of (events_of before)).live ≤ length shifts
    few_live = no_more Attended (roll_of (events_of before)).live shifts roll_sound.apart its_worker one_of_worker

    -- a call is of the session with this number, or of none, for which 0 stands
    abbrev IsOf : ℕ → Call I O → Type 0
    IsOf c k = (k.attended.session ≡ Some c) ⊎ ((c ≡ 0) × (k.attended.session ≡ None))

    -- fewer sessions have begun than there are calls, one of which is of none
    few_begun : (k : Call I O) → Contains (calls_of shifts) k → k.attended.session ≡ None → (roll_of (events_of before)).begun + 1 ≤ length (calls_of shifts)
    few_begun k has none = let n = (roll_of (events_of before)).begun in
        subst (λ m. m ≤ length (calls_of shifts)) (down_length n) (no_more IsOf (down n) (calls_of shifts) (down_distinct n) found one)
      where
        found : (c : ℕ) → Contains (down (roll_of (events_of before)).begun) c → (j : Call I O) × Contains (calls_of shifts) j × IsOf c j
        found zero h = (k, has, inr (refl, none))
        found (suc c) h =
            let begun = has_begun (suc c) no_sessions (events_of before) (front_legal begins legal) (omega arith) (down_within (roll_of (events_of before)).begun (suc c) h) in
            let j = its (suc c) (events_has (Begin (suc c)) begins begun) in
            (j.0, j.1, inl j.2)

        one : (c d : ℕ) (j : Call I O) → Contains (down (roll_of (events_of before)).begun) c → Contains (down (roll_of (events_of before)).begun) d → IsOf c j → IsOf d j → c ≡ d
        one c d j h g (inl e) (inl f) = let both : Some c ≡ Some d = sym e ∙ f in cc both
        one c d j h g (inl e) (inr f) = let wrong : Some c ≡ None = sym e ∙ f.1 in absurd (cc wrong)
        one c d j h g (inr e) (inl f) = let wrong : Some d ≡ None = sym f ∙ e.1 in absurd (cc wrong)
        one c d j h g (inr e) (inr f) = e.0 ∙ sym f.0

  -- no begin is refused since too many sessions live or have begun
  pub uncrowded : length shifts < 1024 → length (calls_of shifts) < 2 ^ 32 → (k : Call I O) → Contains (calls_of shifts) k → k.attended.session ≡ None → Turned s ask.Begin answer.Crowded k.reader_old k.reader → ⊥
  uncrowded few short k has none t =
      let begins : IsPrefix t.before history = prefix_trans (record { rest = t.entry; is = t.seen }) (seen k has) in
      ⊎_elim
      (λ (full : length (roll_of (events_of t.before)).live ≡ 1024). let l = few_live t.before begins t.may.0.on in omega arith)
      (λ (last : (roll_of (events_of t.before)).begun ≡ 2 ^ 32 - 1). let l = few_begun t.before begins t.may.0.on k has none in omega arith)
      t.may.1
