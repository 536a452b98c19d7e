-- Who lives and who has begun in a legal history, and how many they may be.
use Rattle.std.proofs.Common.{◌≡◌, ℕ, zero, suc, ◌+◌, ◌≤◌, ◌<◌, Bool, true, false, cond, List, [], ◌∷◌, ◌++◌, length, refl, sym, ap, ◌∙◌, subst, arith, ⊎_elim, inl, inr, length-append, eq-eqb}
use Rattle.std.specs.Prelude.{◌⊎◌, ◌==◌, Contains, filter, not}
use Rattle.std.specs.List.{flat_map}
use Rattle.std.proofs.lemmas.Bool.{cases_lt}
use Rattle.std.proofs.lemmas.List.Elements.{All-contains, All-contains_itself, All-filter, filter_passes, Contains-append_left, Contains-append_right, Contains-append_cases, Contains-push_cases}
use Rattle.r9_event.specs.declared.event.event.Event.{Event}
use Rattle.r9_event.specs.declared.event.event.Event.TheVariants.{Begin, Msg, Take, End, Stop}
use Rattle.model_history.specs.event.Legal.{Roll, roll_after, roll_from, AllowedTo, AllowedFrom}

-- ---- lists

module _ {X : Type 0} where
  pub none_in : (x : X) → Contains [] x → ⊥
  none_in x h = let k : h.0 < 0 = h.1 in omega arith

  pub first_in : (y x : X) (xs : List X) → y ≡ x → Contains (y ∷ xs) x
  first_in y x xs e = (zero, omega arith, e)

  pub later_in : (y x : X) (xs : List X) → Contains xs x → Contains (y ∷ xs) x
  later_in y x xs h = Contains-append_right (y ∷ []) xs x h

  pub cases_in : (y x : X) (xs : List X) → Contains (y ∷ xs) x → (y ≡ x) ⊎ Contains xs x
  cases_in y x xs (zero, within, is) = inl is
  cases_in y x xs (suc k, within, is) = inr (k, omega arith, is)

  split_at : (xs : List X) (x : X) → Contains xs x → (front : List X) × (back : List X) × (xs ≡ front ++ x ∷ back)
  split_at [] x h = absurd (none_in x h)
  split_at (y ∷ xs) x (zero, within, is) = ([], xs, ap (λ z. z ∷ xs) is)
  split_at (y ∷ xs) x (suc k, within, is) = let r = split_at xs x (k, omega arith, is) in (y ∷ r.0, r.1, ap (λ l. y ∷ l) r.2)

  -- no element stands twice
  abbrev pub Distinct : List X → Type 0
  Distinct [] = Unit {0}
  Distinct (x ∷ xs) = (Contains xs x → ⊥) × Distinct xs

  distinct_push : (xs : List X) (x : X) → Distinct xs → (Contains xs x → ⊥) → Distinct (xs ++ x ∷ [])
  distinct_push [] x apart new = ((λ h. none_in x h), tt)
  distinct_push (y ∷ xs) x apart new = (
    (λ h. ⊎_elim (λ (k : Contains xs y). apart.0 k) (λ (e : x ≡ y). new (first_in y x xs (sym e))) (Contains-push_cases xs x y h)),
    distinct_push xs x apart.1 (λ h. new (later_in y x xs h)),
  )

  unfiltered : (p : X → Bool) (xs : List X) (x : X) → Contains (filter p xs) x → Contains xs x
  unfiltered p xs x has = All-contains (Contains xs) (filter p xs) x (All-filter p (Contains xs) xs (All-contains_itself xs)) has

  distinct_filter : (p : X → Bool) (xs : List X) → Distinct xs → Distinct (filter p xs)
  distinct_filter p [] apart = tt
  distinct_filter p (x ∷ xs) apart = go (p x) (distinct_filter p xs apart.1)
    where
      go : (b : Bool) → Distinct (filter p xs) → Distinct (cond b (x ∷ filter p xs) (filter p xs))
      go true rest = ((λ h. apart.0 (unfiltered p xs x h)), rest)
      go false rest = rest

module _ {X Y : Type 0} (R : X → Y → Type 0) where
  -- where each of some different elements has a holder, and no holder has two, they are no more than the holders
  pub no_more : (xs : List X) (ys : List Y) → Distinct xs → ((x : X) → Contains xs x → (y : Y) × Contains ys y × R x y)
      → ((x z : X) (y : Y) → Contains xs x → Contains xs z → R x y → R z y → x ≡ z) → length xs ≤ length ys
  no_more [] ys apart found one = omega arith
  no_more (x ∷ xs) ys apart found one =
      let f = found x (first_in x x xs refl) in
      let s = split_at ys f.0 f.1 in
      let few = no_more xs (s.0 ++ s.1) apart.1 (λ z has. other f.0 f.2 s.0 s.1 s.2 z has) (λ a b y h k. one a b y (later_in x a xs h) (later_in x b xs k)) in
      omega (arith, few, ap length s.2, length-append s.0 (f.0 ∷ s.1), length-append s.0 s.1)
    where
      other : (y : Y) → R x y → (front back : List Y) → ys ≡ front ++ y ∷ back → (z : X) → Contains xs z → (v : Y) × Contains (front ++ back) v × R z v
      other y holds front back is z has =
          let g = found z (later_in x z xs has) in
          ⊎_elim
          (λ (h : Contains front g.0). (g.0, Contains-append_left front back g.0 h, g.2))
          (λ (h : Contains (y ∷ back) g.0). ⊎_elim
          (λ (e : y ≡ g.0). absurd (apart.0 (subst (Contains xs) (sym (one x z g.0 (first_in x x xs refl) (later_in x z xs has) (subst (R x) e holds) g.2)) has)))
          (λ (k : Contains back g.0). (g.0, Contains-append_right front back g.0 k, g.2))
          (cases_in y g.0 back h))
          (Contains-append_cases front (y ∷ back) g.0 (subst (λ l. Contains l g.0) is g.1))

module _ {X Y : Type 0} (f : X → List Y) where
  pub in_parts : (xs : List X) (y : Y) → Contains (flat_map f xs) y → (x : X) × Contains xs x × Contains (f x) y
  in_parts [] y h = absurd (none_in y h)
  in_parts (x ∷ xs) y h = ⊎_elim (λ (k : Contains (f x) y). (x, first_in x x xs refl, k))
      (λ (k : Contains (flat_map f xs) y). let r = in_parts xs y k in (r.0, later_in x r.0 xs r.1, r.2)) (Contains-append_cases (f x) (flat_map f xs) y h)

-- the numbers from this one down to 0
abbrev pub down : ℕ → List ℕ
down zero = 0 ∷ []
down (suc n) = suc n ∷ down n

pub down_length : (n : ℕ) → length (down n) ≡ n + 1
down_length zero = refl
down_length (suc n) = let h = down_length n in omega arith

pub down_within : (n c : ℕ) → Contains (down n) c → c ≤ n
down_within zero c h = ⊎_elim (λ (e : 0 ≡ c). omega arith) (λ (k : Contains [] c). absurd (none_in c k)) (cases_in 0 c [] h)
down_within (suc n) c h = ⊎_elim (λ (e : suc n ≡ c). omega arith) (λ (k : Contains (down n) c). let l = down_within n c k in omega arith) (cases_in (suc n) c (down n) h)

pub down_distinct : (n : ℕ) → Distinct (down n)
down_distinct zero = ((λ h. none_in 0 h), tt)
down_distinct (suc n) = ((λ h. let l = down_within n (suc n) h in omega arith), down_distinct n)

-- ---- histories

pub legal-append : (roll : Roll) (xs ys : List Event) → AllowedFrom roll (xs ++ ys) → AllowedFrom roll xs × AllowedFrom (roll_from roll xs) ys
legal-append roll [] ys legal = (tt, legal)
legal-append roll (x ∷ xs) ys legal = let h = legal-append (roll_after roll x) xs ys legal.1 in ((legal.0, h.0), h.1)

pub roll-append : (roll : Roll) (xs ys : List Event) → roll_from roll (xs ++ ys) ≡ roll_from (roll_from roll xs) ys
roll-append roll [] ys = refl
roll-append roll (x ∷ xs) ys = roll-append (roll_after roll x) xs ys

-- no session that lives has a number above that of the last that has begun, and each stands once
pub record IsSound (roll : Roll) : Type 0 where
  pub begun : (c : ℕ) → Contains roll.live c → c ≤ roll.begun
  pub apart : Distinct roll.live

sound_after : (roll : Roll) (event : Event) → AllowedTo roll event → IsSound roll → IsSound (roll_after roll event)
sound_after roll (Begin d) allowed is = record {
  begun = λ c has. ⊎_elim (λ (h : Contains roll.live c). let l = is.begun c h in omega (arith, allowed.0)) (λ (e : d ≡ c). omega arith) (Contains-push_cases roll.live d c has);
  apart = distinct_push roll.live d is.apart (λ h. let l = is.begun d h in omega (arith, allowed.0));
}
sound_after roll (Msg d bytes mark) allowed is = is
sound_after roll (Take d) allowed is = is
sound_after roll (End d) allowed is = record {
  begun = λ c has. is.begun c (unfiltered (λ e. not (e == d)) roll.live c has);
  apart = distinct_filter (λ e. not (e == d)) roll.live is.apart;
}
sound_after roll Stop allowed is = record { begun = is.begun; apart = is.apart }

pub sound : (roll : Roll) (events : List Event) → AllowedFrom roll events → IsSound roll → IsSound (roll_from roll events)
sound roll [] legal is = is
sound roll (e ∷ events) legal is = sound (roll_after roll e) events legal.1 (sound_after roll e legal.0.1 is)

more_after : (roll : Roll) (event : Event) → AllowedTo roll event → roll.begun ≤ (roll_after roll event).begun
more_after roll (Begin d) allowed = omega (arith, allowed.0)
more_after roll (Msg d bytes mark) allowed = omega arith
more_after roll (Take d) allowed = omega arith
more_after roll (End d) allowed = omega arith
more_after roll Stop allowed = omega arith

pub more_begun : (roll : Roll) (events : List Event) → AllowedFrom roll events → roll.begun ≤ (roll_from roll events).begun
more_begun roll [] legal = omega arith
more_begun roll (e ∷ events) legal = let h = more_after roll e legal.0.1 in let k = more_begun (roll_after roll e) events legal.1 in omega arith

-- ---- who has begun

begins_at : (c : ℕ) (roll : Roll) (event : Event) → AllowedTo roll event → roll.begun < c → c ≤ (roll_after roll event).begun → event ≡ Begin c
begins_at c roll (Begin d) allowed low high = let e : d ≡ c = omega (arith, allowed.0) in ap Begin e
begins_at c roll (Msg d bytes mark) allowed low high = absurd (omega arith)
begins_at c roll (Take d) allowed low high = absurd (omega arith)
begins_at c roll (End d) allowed low high = absurd (omega arith)
begins_at c roll Stop allowed low high = absurd (omega arith)

-- each number up to that of the last is that of a session that has begun
pub has_begun : (c : ℕ) (roll : Roll) (events : List Event) → AllowedFrom roll events → roll.begun < c → c ≤ (roll_from roll events).begun → Contains events (Begin c)
has_begun c roll [] legal low high = absurd (omega arith)
has_begun c roll (e ∷ events) legal low high = ⊎_elim
    (λ (l : (roll_after roll e).begun < c). later_in e (Begin c) events (has_begun c (roll_after roll e) events legal.1 l high))
    (λ (l : c ≤ (roll_after roll e).begun). first_in e (Begin c) events (begins_at c roll e legal.0.1 low l))
    (cases_lt (roll_after roll e).begun c)

lives_at : (c : ℕ) (roll : Roll) (event : Event) → Contains (roll_after roll event).live c → Contains roll.live c ⊎ (event ≡ Begin c)
lives_at c roll (Begin d) has = ⊎_elim (λ (h : Contains roll.live c). inl h) (λ (e : d ≡ c). inr (ap Begin e)) (Contains-push_cases roll.live d c has)
lives_at c roll (Msg d bytes mark) has = inl has
lives_at c roll (Take d) has = inl has
lives_at c roll (End d) has = inl (unfiltered (λ e. not (e == d)) roll.live c has)
lives_at c roll Stop has = inl has

-- who lives lived before, or has begun
pub lives_begun : (c : ℕ) (roll : Roll) (events : List Event) → Contains (roll_from roll events).live c → Contains roll.live c ⊎ Contains events (Begin c)
lives_begun c roll [] has = inl has
lives_begun c roll (e ∷ events) has = ⊎_elim
    (λ (h : Contains (roll_after roll e).live c). ⊎_elim (λ (k : Contains roll.live c). inl k) (λ (is : e ≡ Begin c). inr (first_in e (Begin c) events is)) (lives_at c roll e h))
    (λ (h : Contains events (Begin c)). inr (later_in e (Begin c) events h))
    (lives_begun c (roll_after roll e) events has)

-- ---- who has ended

gone_after : (c : ℕ) (roll : Roll) (event : Event) → AllowedTo roll event → c ≤ roll.begun → (Contains roll.live c → ⊥) → Contains (roll_after roll event).live c → ⊥
gone_after c roll (Begin d) allowed low gone has = ⊎_elim gone (λ (e : d ≡ c). omega (arith, allowed.0)) (Contains-push_cases roll.live d c has)
gone_after c roll (Msg d bytes mark) allowed low gone has = gone has
gone_after c roll (Take d) allowed low gone has = gone has
gone_after c roll (End d) allowed low gone has = gone (unfiltered (λ e. not (e == d)) roll.live c has)
gone_after c roll Stop allowed low gone has = gone has

stays_gone : (c : ℕ) (roll : Roll) (events : List Event) → AllowedFrom roll events → c ≤ roll.begun → (Contains roll.live c → ⊥) → Contains (roll_from roll events).live c → ⊥
stays_gone c roll [] legal low gone = gone
stays_gone c roll (e ∷ events) legal low gone = let more = more_after roll e legal.0.1 in
    stays_gone c (roll_after roll e) events legal.1 (omega arith) (gone_after c roll e legal.0.1 low gone)

ends_at : (c : ℕ) (live : List ℕ) → Contains (filter (λ d. not (d == c)) live) c → ⊥
ends_at c live has =
    let passes : not (c == c) ≡ true = All-contains (λ (d : ℕ). not (d == c) ≡ true) (filter (λ d. not (d == c)) live) c (filter_passes (λ d. not (d == c)) live) has in
    let wrong : false ≡ true = ap not (sym (eq-eqb c c refl)) ∙ passes in absurd (cc wrong)

-- who has ended lives no more
pub ended_gone : (c : ℕ) (roll : Roll) (events : List Event) → IsSound roll → AllowedFrom roll events → Contains events (End c) → Contains (roll_from roll events).live c → ⊥
ended_gone c roll [] is legal has = absurd (none_in (End c) has)
ended_gone c roll (e ∷ events) is legal has = ⊎_elim now (λ (h : Contains events (End c)). ended_gone c (roll_after roll e) events (sound_after roll e legal.0.1 is) legal.1 h) (cases_in e (End c) events has)
  where
    now : e ≡ End c → Contains (roll_from (roll_after roll e) events).live c → ⊥
    now same = stays_gone c (roll_after roll e) events legal.1
        (subst (λ (v : Event). c ≤ (roll_after roll v).begun) (sym same) (is.begun c (subst (AllowedTo roll) same legal.0.1)))
        (λ h. ends_at c roll.live (subst (λ (v : Event). Contains (roll_after roll v).live c) same h))

still_stopped : (roll : Roll) (event : Event) → roll.stopped ≡ true → (roll_after roll event).stopped ≡ true
still_stopped roll (Begin d) is = is
still_stopped roll (Msg d bytes mark) is = is
still_stopped roll (Take d) is = is
still_stopped roll (End d) is = is
still_stopped roll Stop is = refl

stays_stopped : (roll : Roll) (events : List Event) → roll.stopped ≡ true → (roll_from roll events).stopped ≡ true
stays_stopped roll [] is = is
stays_stopped roll (e ∷ events) is = stays_stopped (roll_after roll e) events (still_stopped roll e is)

-- behind a stop all has stopped
pub stopped_by : (roll : Roll) (events : List Event) → Contains events Stop → (roll_from roll events).stopped ≡ true
stopped_by roll [] has = absurd (none_in Stop has)
stopped_by roll (e ∷ events) has = ⊎_elim
    (λ (same : e ≡ Stop). stays_stopped (roll_after roll e) events (subst (λ (v : Event). (roll_after roll v).stopped ≡ true) (sym same) refl))
    (λ (h : Contains events Stop). stopped_by (roll_after roll e) events h)
    (cases_in e Stop events has)
