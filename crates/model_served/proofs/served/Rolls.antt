-- Which sessions live, have begun and have ended, in a legal history.
use Rattle.std.proofs.Common.{◌≡◌, ◌≤◌, ◌⊎◌, ◌↔◌, ℕ, zero, Bool, true, false, cond, eqb, List, [], ◌∷◌, ◌++◌, refl, sym, ap, subst, ◌∙◌, inl, inr, arith}
use Rattle.std.specs.Prelude.{All, Contains, filter, not, ◌==◌}
use Rattle.std.proofs.lemmas.Bool.{eqb-true, eqb-false}
use Rattle.std.proofs.lemmas.List.Elements.{All-cons, All-contains, All-contains_itself, All-filter, All-nil, All-weaker, filter_passes, Contains-append_left, Contains-append_right, Contains-push, Contains-push_cases}
use Rattle.r9_event.specs.declared.event.event.Event.{Event}
use Rattle.r9_event.specs.declared.event.event.Event.TheVariants.{Begin, Msg, Take, End, Stop}
use Rattle.model_history.specs.event.Legal.{Roll, AllowedTo, IsLegal, no_sessions, roll_after, roll_of}
use Rattle.model_history.proofs.event.Rolls.{roll_from-push}
use Rattle.model_text.proofs.map.Keys.{eqb-same, not_key}
use Rattle.model_served.proofs.served.Pushed.{by_history}

-- ---- what a filter contains

none_in : {A : Type 0} (x : A) → Contains [] x → ⊥
none_in x has = omega (arith, has.1)

unfiltered : {A : Type 0} (p : A → Bool) (xs : List A) (x : A) → Contains (filter p xs) x → Contains xs x
unfiltered p xs x has = All-contains (Contains xs) (filter p xs) x (All-filter p (Contains xs) xs (All-contains_itself xs)) has

passes : {A : Type 0} (p : A → Bool) (xs : List A) (x : A) → Contains (filter p xs) x → p x ≡ true
passes p xs x has = All-contains (λ y. p y ≡ true) (filter p xs) x (filter_passes p xs) has

all_filtered : {A : Type 0} (p : A → Bool) (xs : List A) → All (λ x. p x ≡ true → Contains (filter p xs) x) xs
all_filtered p [] = All-nil (λ x. p x ≡ true → Contains [] x)
all_filtered {A = A} p (y ∷ xs) = by (all_filtered p xs) (p y) refl
  where
    by : All (λ x. p x ≡ true → Contains (filter p xs) x) xs → (b : Bool) → p y ≡ b → All (λ x. p x ≡ true → Contains (cond b (y ∷ filter p xs) (filter p xs)) x) (y ∷ xs)
    by more true at = All-cons (λ x. p x ≡ true → Contains (y ∷ filter p xs) x) y xs (λ _. (zero, omega arith, refl))
        (All-weaker (λ x. p x ≡ true → Contains (filter p xs) x) (λ x. p x ≡ true → Contains (y ∷ filter p xs) x) (λ x has is. Contains-append_right (y ∷ []) (filter p xs) x (has is)) xs more)
    by more false at = All-cons (λ x. p x ≡ true → Contains (filter p xs) x) y xs (λ is. absurd (let two : false ≡ true = sym at ∙ is in cc two)) more

filtered : {A : Type 0} (p : A → Bool) (xs : List A) (x : A) → p x ≡ true → Contains xs x → Contains (filter p xs) x
filtered p xs x is has = All-contains (λ y. p y ≡ true → Contains (filter p xs) y) xs x (all_filtered p xs) has is

-- ---- who lives

-- of the sessions that live when c has ended: not c, and each other one that lived
pub ended_lives_not : (live : List ℕ) (c : ℕ) → Contains (filter (λ d. not (d == c)) live) c → ⊥
ended_lives_not live c has = let two : false ≡ true = ap not (sym (eqb-same c)) ∙ passes (λ d. not (d == c)) live c has in absurd (cc two)

pub lived_before : (live : List ℕ) (c d : ℕ) → Contains (filter (λ e. not (e == c)) live) d → Contains live d
lived_before live c d has = unfiltered (λ e. not (e == c)) live d has

pub others_live : (live : List ℕ) (c d : ℕ) → (d ≡ c → ⊥) → Contains live d → Contains (filter (λ e. not (e == c)) live) d
others_live live c d other has = filtered (λ e. not (e == c)) live d (ap not (not_key d c other)) has

-- of those that live when d has begun
pub begun_lives : (live : List ℕ) (c d : ℕ) → (d ≡ c → ⊥) → Contains (live ++ d ∷ []) c → Contains live c
begun_lives live c d other has = by (Contains-push_cases live d c has)
  where
    by : Contains live c ⊎ (d ≡ c) → Contains live c
    by (inl lived) = lived
    by (inr same) = absurd (other same)

abbrev LivesBegun : (c : ℕ) → Roll → Type 0
LivesBegun c roll = Contains roll.live c → (1 ≤ c) × (c ≤ roll.begun)

begun_after : (c : ℕ) (roll : Roll) (event : Event) → AllowedTo roll event → LivesBegun c roll → LivesBegun c (roll_after roll event)
begun_after c roll (Begin d) allowed is has = by (Contains-push_cases roll.live d c has)
  where
    by : Contains roll.live c ⊎ (d ≡ c) → (1 ≤ c) × (c ≤ d)
    by (inl lived) = let within = is lived in (within.0, omega (arith, within.1, allowed.0))
    by (inr same) = (omega (arith, same, allowed.0), omega (arith, same))
begun_after c roll (Msg d bytes mark) allowed is has = is has
begun_after c roll (Take d) allowed is has = is has
begun_after c roll (End d) allowed is has = is (lived_before roll.live d c has)
begun_after c roll Stop allowed is has = is has

-- a session that lives has begun
pub living_begun : (events : List Event) → IsLegal events → (c : ℕ) → Contains (roll_of events).live c → (1 ≤ c) × (c ≤ (roll_of events).begun)
living_begun events legal c = by_history (λ all. LivesBegun c (roll_of all)) (λ has. absurd (none_in c has))
    (λ before event _ allowed is. subst (LivesBegun c) (sym (roll_from-push no_sessions before event)) (begun_after c (roll_of before) event allowed.1 is))
    events legal

-- ---- who has ended

-- it has begun, and does not live
abbrev IsGone : (c : ℕ) → Roll → Type 0
IsGone c roll = (1 ≤ c) × (c ≤ roll.begun) × (Contains roll.live c → ⊥)

gone_after : (c : ℕ) (roll : Roll) (event : Event) → AllowedTo roll event → IsGone c roll → IsGone c (roll_after roll event)
gone_after c roll (Begin d) allowed gone = (gone.0, omega (arith, gone.1, allowed.0), λ has. gone.2 (begun_lives roll.live c d (λ same. omega (arith, same, gone.1, allowed.0)) has))
gone_after c roll (Msg d bytes mark) allowed gone = gone
gone_after c roll (Take d) allowed gone = gone
gone_after c roll (End d) allowed gone = (gone.0, gone.1, λ has. gone.2 (lived_before roll.live d c has))
gone_after c roll Stop allowed gone = gone

end_is : (c d : ℕ) → End d ≡ End c → d ≡ c
end_is c d e = cc

goes : (c : ℕ) (roll : Roll) (event : Event) → AllowedTo roll event → ((d : ℕ) → LivesBegun d roll) → event ≡ End c → IsGone c (roll_after roll event)
goes c roll (Begin d) allowed begun is = absurd (cc is)
goes c roll (Msg d bytes mark) allowed begun is = absurd (cc is)
goes c roll (Take d) allowed begun is = absurd (cc is)
goes c roll (End d) allowed begun is =
    let same : d ≡ c = end_is c d is in
    let within = begun d allowed in
    (omega (arith, same, within.0), omega (arith, same, within.1), λ has. ended_lives_not roll.live c (subst (λ (k : ℕ). Contains (filter (λ e. not (e == k)) roll.live) c) same has))
goes c roll Stop allowed begun is = absurd (cc is)

-- it was gone before, or goes now
went : (c : ℕ) (roll : Roll) (event : Event) → AllowedTo roll event → IsGone c (roll_after roll event) → IsGone c roll ⊎ (event ≡ End c)
went c roll (Begin d) allowed gone = by (eqb d c) refl
  where
    by : (b : Bool) → eqb d c ≡ b → IsGone c roll ⊎ (Begin d ≡ End c)
    by true at = absurd (gone.2 (subst (λ (k : ℕ). Contains (roll.live ++ d ∷ []) k) (eqb-true d c at) (Contains-push roll.live d)))
    by false at = inl (gone.0, (let other : d ≡ c → ⊥ = λ same. eqb-false d c at same in omega (arith, other, gone.1, allowed.0)), λ has. gone.2 (Contains-append_left roll.live (d ∷ []) c has))
went c roll (Msg d bytes mark) allowed gone = inl gone
went c roll (Take d) allowed gone = inl gone
went c roll (End d) allowed gone = by (eqb c d) refl
  where
    by : (b : Bool) → eqb c d ≡ b → IsGone c roll ⊎ (End d ≡ End c)
    by true at = inr (ap End (sym (eqb-true c d at)))
    by false at = inl (gone.0, gone.1, λ has. gone.2 (others_live roll.live d c (λ same. eqb-false c d at same) has))
went c roll Stop allowed gone = inl gone

abbrev HasEnded : (c : ℕ) → List Event → Roll → Type 0
HasEnded c events roll = Contains events (End c) ↔ IsGone c roll

ended_after : (c : ℕ) (events : List Event) (roll : Roll) (event : Event) → AllowedTo roll event → ((d : ℕ) → LivesBegun d roll) → HasEnded c events roll → HasEnded c (events ++ event ∷ []) (roll_after roll event)
ended_after c events roll event allowed begun is = (λ has. there (Contains-push_cases events event (End c) has), λ gone. back (went c roll event allowed gone))
  where
    there : Contains events (End c) ⊎ (event ≡ End c) → IsGone c (roll_after roll event)
    there (inl before) = gone_after c roll event allowed (is.0 before)
    there (inr now) = goes c roll event allowed begun now

    back : IsGone c roll ⊎ (event ≡ End c) → Contains (events ++ event ∷ []) (End c)
    back (inl before) = Contains-append_left events (event ∷ []) (End c) (is.1 before)
    back (inr now) = subst (λ (e : Event). Contains (events ++ event ∷ []) e) now (Contains-push events event)

-- the sessions that have ended are those that have begun and do not live
pub ended_begun : (events : List Event) (c : ℕ) → IsLegal events → Contains events (End c) ↔ ((1 ≤ c) × (c ≤ (roll_of events).begun) × (Contains (roll_of events).live c → ⊥))
ended_begun events c legal = by_history (λ all. HasEnded c all (roll_of all)) (λ has. absurd (none_in (End c) has), λ gone. absurd (omega (arith, gone.0, gone.1)))
    (λ before event lawful allowed is. subst (HasEnded c (before ++ event ∷ [])) (sym (roll_from-push no_sessions before event)) (ended_after c before (roll_of before) event allowed.1 (living_begun before lawful) is))
    events legal
