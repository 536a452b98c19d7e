-- What a history says of a session, and what entries behind it change.
use Rattle.std.proofs.Common.{◌≡◌, ◌≢◌, ℕ, zero, suc, ◌<◌, ◌≤◌, Bool, true, false, cond, List, [], ◌∷◌, ◌++◌, length, take, refl, sym, ap, ◌∙◌, subst, arith, append_assoc, ⊎_elim, inl, inr}
use Rattle.std.specs.Prelude.{◌⊎◌, ◌==◌, Contains, Option, None, filter, not, nat_eq}
use Rattle.std.specs.Int.{w32, from_le_bytes}
use Rattle.std.specs.List.{AllByRecursion}
use Rattle.std.proofs.lemmas.List.{append-nil, map-append, length-take, take-append-le}
use Rattle.std.proofs.lemmas.List.Elements.{Contains-append_left, Contains-append_right, Contains-append_cases}
use Rattle.std.proofs.lemmas.List.Concat.{flat_map-cons}
use Rattle.std.proofs.lemmas.Bool.{eq-eqb}
use Rattle.std.proofs.lemmas.Bool.Decides.{eqb_tells}
use Rattle.std.proofs.lemmas.Grind.{flat_map-append}
use Rattle.std.proofs.lemmas.Nat.{le_bytes_4}
use Rattle.r9_event.specs.declared.event.event.Event.{Event}
use Rattle.r9_event.specs.declared.event.event.Event.TheVariants.{Begin, Msg, Take, End, Stop}
use Rattle.r9_event.specs.declared.event.event.Entry.{Entry}
use Rattle.r9_lock.specs.Histories.{IsPrefix}
use Rattle.model_text.specs.text.Number.{AreBytes}
use Rattle.model_text.proofs.text.Fields.{AreBytes-take}
use Rattle.model_files.specs.frame.Frame.{first}
use Rattle.model_files.specs.frame.Frame as cut
use Rattle.model_files.proofs.frame.Laws.{frame_lawful, frame_parts}
use Rattle.model_history.specs.event.Journal.{events_of}
use Rattle.model_history.specs.event.Legal.{Roll, roll_after, roll_from, no_sessions, IsMessage}
use Rattle.model_served.specs.session.Server.{Server, IsServer, messages_of, message_in, is_msg}
use Rattle.r9_attend.proofs.attend.Growing.{Behind}

pub events_append : (xs ys : List Entry) → events_of (xs ++ ys) ≡ events_of xs ++ events_of ys
events_append xs ys = map-append (λ (x : Entry). x.event) xs ys

pub events_prefix : {xs ys : List Entry} → IsPrefix xs ys → IsPrefix (events_of xs) (events_of ys)
events_prefix {xs} {ys} p = record { rest = events_of p.rest; is = ap events_of p.is ∙ events_append xs p.rest }

pub events_has : {xs ys : List Entry} (event : Event) → IsPrefix xs ys → Contains (events_of xs) event → Contains (events_of ys) event
events_has {xs} {ys} event p has = let q = events_prefix p in subst (λ l. Contains l event) (sym q.is) (Contains-append_left (events_of xs) q.rest event has)

module _ (c : ℕ) where
  no_message : (event : Event) → is_msg c event ≡ false → message_in c event ≡ []
  no_message (Msg d bytes mark) e = ap (λ (b : Bool). let l : List (List ℕ) = cond b (bytes ∷ []) [] in l) e
  no_message (Begin d) e = refl
  no_message (Take d) e = refl
  no_message (End d) e = refl
  no_message Stop e = refl

  pub no_messages : (rest : List Entry) → AllByRecursion (λ (x : Entry). is_msg c x.event ≡ false) rest → messages_of c (events_of rest) ≡ []
  no_messages [] none = refl
  no_messages (x ∷ rest) none = flat_map-cons (message_in c) x.event (events_of rest) ∙ ap (λ l. l ++ messages_of c (events_of rest)) (no_message x.event none.0) ∙ no_messages rest none.1

  -- entries without its messages change none
  pub messages_behind : (seen history : List Entry) → Behind (is_msg c) seen history → messages_of c (events_of history) ≡ messages_of c (events_of seen)
  messages_behind seen history b =
      ap (λ l. messages_of c (events_of l)) b.is ∙ ap (messages_of c) (events_append seen b.rest) ∙ flat_map-append (message_in c) (events_of seen) (events_of b.rest)
      ∙ ap (λ l. messages_of c (events_of seen) ++ l) (no_messages b.rest b.none) ∙ append-nil (messages_of c (events_of seen))

  -- one message more
  pub messages_more : (events : List Event) (bytes : List ℕ) (mark : Option ℕ) → messages_of c (events ++ Msg c bytes mark ∷ []) ≡ messages_of c events ++ bytes ∷ []
  messages_more events bytes mark =
      flat_map-append (message_in c) events (Msg c bytes mark ∷ [])
      ∙ ap (λ l. messages_of c events ++ l) (flat_map-cons (message_in c) (Msg c bytes mark) [] ∙ append-nil (message_in c (Msg c bytes mark))
      ∙ ap (λ (b : Bool). let l : List (List ℕ) = cond b (bytes ∷ []) [] in l) (eq-eqb c c refl))

  module _ (s : Server) (lawful : IsServer s) where
    closed_kept : (events : List Event) (rest : List Entry) → AllByRecursion (λ (x : Entry). is_msg c x.event ≡ false) rest → s.closed (events ++ events_of rest) c ≡ s.closed events c
    closed_kept events [] none = ap (λ l. s.closed l c) (append-nil events)
    closed_kept events (x ∷ rest) none =
        ap (λ l. s.closed l c) (sym (append_assoc events (x.event ∷ []) (events_of rest)))
        ∙ closed_kept (events ++ x.event ∷ []) rest none.1 ∙ lawful.kept events x.event c none.0

    pub closed_behind : (seen history : List Entry) → Behind (is_msg c) seen history → s.closed (events_of history) c ≡ s.closed (events_of seen) c
    closed_behind seen history b = ap (λ l. s.closed l c) (ap events_of b.is ∙ events_append seen b.rest) ∙ closed_kept (events_of seen) b.rest b.none

    pub closed_none : (history : List Entry) → AllByRecursion (λ (x : Entry). is_msg c x.event ≡ false) history → s.closed (events_of history) c ≡ None
    closed_none history none = closed_kept [] history none ∙ lawful.open_first c

-- a frame is a message
pub frame_message : (limit : ℕ) (held frame : List ℕ) → first limit held ≡ cut.Frame frame → limit ≤ 65560 → AreBytes frame → IsMessage frame
frame_message limit held frame e small are =
    let lawful = frame_lawful limit held frame e in
    let front : take 4 held ≡ take 4 frame = ap (take 4) (frame_parts limit held frame e) ∙ take-append-le 4 frame _ (omega arith) in
    let four : length (take 4 frame) ≡ 4 = omega (arith, length-take 4 frame) in
    record {
      long = lawful.1;
      short = omega (arith, lawful.2);
      sized = sym (le_bytes_4 (take 4 frame) (length frame) four (AreBytes-take 4 frame are) (lawful.0 ∙ ap (from_le_bytes w32) front));
      are_bytes = are;
    }

-- ---- a session that has begun lives, or its end stands in the history

in_filter : (p : ℕ → Bool) (xs : List ℕ) (x : ℕ) → p x ≡ true → Contains xs x → Contains (filter p xs) x
in_filter p [] x e h = let k : h.0 < 0 = h.1 in absurd (omega arith)
in_filter p (y ∷ ys) x e h = go (p y) refl (in_filter p ys x e) (Contains-append_cases (y ∷ []) ys x h)
  where
    here : Contains (y ∷ []) x → y ≡ x
    here (zero, within, is) = is
    here (suc k, within, is) = absurd (omega arith)

    go : (b : Bool) → p y ≡ b → (Contains ys x → Contains (filter p ys) x) → Contains (y ∷ []) x ⊎ Contains ys x → Contains (filter p (y ∷ ys)) x
    go true q later h = subst (λ (l : List ℕ). Contains l x) (sym (ap (λ (b : Bool). cond b (y ∷ filter p ys) (filter p ys)) q))
        (⊎_elim (λ (k : Contains (y ∷ []) x). (zero, omega arith, here k)) (λ (k : Contains ys x). Contains-append_right (y ∷ []) (filter p ys) x (later k)) h)
    go false q later h = subst (λ (l : List ℕ). Contains l x) (sym (ap (λ (b : Bool). cond b (y ∷ filter p ys) (filter p ys)) q))
        (⊎_elim (λ (k : Contains (y ∷ []) x). absurd (cc (here k, q, e))) (λ (k : Contains ys x). later k) h)

module _ (c : ℕ) where
  abbrev Lived : Roll → List Event → Type 0
  Lived roll events = Contains roll.live c ⊎ Contains events (Begin c)

  abbrev Outcome : Roll → List Event → Type 0
  Outcome roll events = Contains (roll_from roll events).live c ⊎ Contains events (End c)

  still_lives : (roll : Roll) (event : Event) → Contains roll.live c → Contains (roll_after roll event).live c ⊎ (event ≡ End c)
  still_lives roll (Begin d) has = inl (Contains-append_left roll.live (d ∷ []) c has)
  still_lives roll (Msg d bytes mark) has = inl has
  still_lives roll (Take d) has = inl has
  still_lives roll (End d) has = ⊎_elim
      (λ (t : (nat_eq c d ≡ true) × (c ≡ d)). inr (ap (λ (n : ℕ). let e : Event = End n in e) (sym t.1)))
      (λ (t : (nat_eq c d ≡ false) × (c ≢ d)). inl (in_filter (λ n. not (n == d)) roll.live c (ap not t.0) has))
      (eqb_tells c d)
  still_lives roll Stop has = inl has

  lives_or_ended : (roll : Roll) (events : List Event) → Lived roll events → Contains (roll_from roll events).live c ⊎ Contains events (End c)
  lives_or_ended roll [] lived = ⊎_elim (λ (h : Contains roll.live c). inl h) (λ (h : Contains [] (Begin c)). let k : h.0 < 0 = h.1 in absurd (omega arith)) lived
  lives_or_ended roll (e ∷ events) lived = go (lives_or_ended (roll_after roll e) events)
    where
      here : Contains (e ∷ []) (Begin c) → e ≡ Begin c
      here (zero, within, is) = is
      here (suc k, within, is) = absurd (omega arith)

      later : Outcome (roll_after roll e) events → Outcome roll (e ∷ events)
      later x = ⊎_elim (λ (h : Contains (roll_from (roll_after roll e) events).live c). inl h) (λ (h : Contains events (End c)). inr (Contains-append_right (e ∷ []) events (End c) h)) x

      on : (Lived (roll_after roll e) events → Outcome (roll_after roll e) events) → Contains (roll_after roll e).live c ⊎ (e ≡ End c) → Outcome roll (e ∷ events)
      on then_ x = ⊎_elim (λ (h : Contains (roll_after roll e).live c). later (then_ (inl h))) (λ (h : e ≡ End c). inr (zero, omega arith, h)) x

      begun : (Lived (roll_after roll e) events → Outcome (roll_after roll e) events) → e ≡ Begin c → Outcome roll (e ∷ events)
      begun then_ x = later (then_ (inl (subst (λ (event : Event). Contains (roll_after roll event).live c) (sym x) (Contains-append_right roll.live (c ∷ []) c (zero, omega arith, refl)))))

      go : (Lived (roll_after roll e) events → Outcome (roll_after roll e) events) → Outcome roll (e ∷ events)
      go then_ =
          ⊎_elim (λ (h : Contains roll.live c). on then_ (still_lives roll e h))
          (λ (h : Contains (e ∷ events) (Begin c)). ⊎_elim
          (λ (k : Contains (e ∷ []) (Begin c)). begun then_ (here k))
          (λ (k : Contains events (Begin c)). later (then_ (inr k)))
          (Contains-append_cases (e ∷ []) events (Begin c) h))
          lived

  pub ended_where : (events : List Event) → Contains events (Begin c) → (Contains (roll_from no_sessions events).live c → ⊥) → Contains events (End c)
  ended_where events has dead = ⊎_elim (λ (h : Contains (roll_from no_sessions events).live c). absurd (dead h)) (λ (h : Contains events (End c)). h) (lives_or_ended no_sessions events (inr has))
