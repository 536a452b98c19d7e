-- What waits for sessions after an event.
use Rattle.std.proofs.Common.{◌≡◌, ℕ, Bool, true, false, cond, eqb, List, [], ◌∷◌, ◌++◌, Option, Some, None, refl, sym, ap, subst, ◌∙◌, append_assoc}
use Rattle.std.specs.Option.{unwrap_or}
use Rattle.std.proofs.lemmas.Bool.{eqb-true, eqb-false}
use Rattle.r9_event.specs.declared.event.event.Event.{Event}
use Rattle.r9_event.specs.declared.event.event.Event.TheVariants.{Begin, Msg, Take, End, Stop}
use Rattle.r9_event.specs.declared.event.event.Reply.{Reply}
use Rattle.model_text.specs.text.Map.{lookup, without}
use Rattle.model_text.proofs.map.Maps.{without-others}
use Rattle.model_world.specs.Replay.{bytes_for, marked, waiting_after}
use Rattle.r9_hall.specs.hall.Outboxes.{taken, waiting}

-- a reply waits behind what waited
pub kept_more : (c : ℕ) (reply : Reply) (others : List Reply) (before after : List (ℕ × List ℕ)) → waiting after reply.session ≡ waiting before reply.session ++ reply.bytes
    → ((other : ℕ) → (other ≡ reply.session → ⊥) → waiting after other ≡ waiting before other) → waiting after c ++ bytes_for c others ≡ waiting before c ++ bytes_for c (reply ∷ others)
kept_more c reply others before after kept apart = by (eqb reply.session c) refl
  where
    by : (b : Bool) → eqb reply.session c ≡ b → waiting after c ++ bytes_for c others ≡ waiting before c ++ bytes_for c (reply ∷ others)
    by true at =
        let is : reply.session ≡ c = eqb-true reply.session c at in
        let here : waiting after c ≡ waiting before c ++ reply.bytes = subst (λ (d : ℕ). waiting after d ≡ waiting before d ++ reply.bytes) is kept in
        rw at (ap (λ (w : List ℕ). w ++ bytes_for c others) here ∙ append_assoc (waiting before c) reply.bytes (bytes_for c others))
    by false at =
        let other : waiting after c ≡ waiting before c = apart c (λ is. eqb-false reply.session c at (sym is)) in
        rw at (ap (λ (w : List ℕ). w ++ bytes_for c others) other)

-- all events but a Take leave what waits
pub posted : (c : ℕ) (waits : List ℕ) (event : Event) (replies : List Reply) → ((session : ℕ) → event ≡ Take session → ⊥) → waiting_after c waits event replies ≡ waits ++ bytes_for c replies
posted c waits (Begin d) replies other = refl
posted c waits (Msg d bytes mark) replies other = refl
posted c waits (Take d) replies other = absurd (other d refl)
posted c waits (End d) replies other = refl
posted c waits Stop replies other = refl

pub left : (outboxes : List (ℕ × List ℕ)) (session c : ℕ) → lookup (without outboxes session) session ≡ None → (b : Bool) → eqb session c ≡ b
    → waiting (without outboxes session) c ≡ cond b [] (waiting outboxes c)
left outboxes session c gone true at =
    let is : session ≡ c = eqb-true session c at in
    ap (λ (o : Option (List ℕ)). unwrap_or o []) (ap (λ (d : ℕ). lookup (without outboxes session) d) (sym is) ∙ gone)
left outboxes session c gone false at =
    ap (λ (o : Option (List ℕ)). unwrap_or o []) (without-others outboxes session c (λ is. eqb-false session c at (sym is)))

-- the mark of an event leaves what waits
pub waiting_marked : (c : ℕ) (waits : List ℕ) (event : Event) (short : Option ℕ) (replies : List Reply) → waiting_after c waits (marked event short) replies ≡ waiting_after c waits event replies
waiting_marked c waits event None replies = refl
waiting_marked c waits (Begin d) (Some k) replies = refl
waiting_marked c waits (Msg d bytes mark) (Some k) replies = refl
waiting_marked c waits (Take d) (Some k) replies = refl
waiting_marked c waits (End d) (Some k) replies = refl
waiting_marked c waits Stop (Some k) replies = refl

-- and takes nothing of it
pub untaken : (outboxes : List (ℕ × List ℕ)) (event : Event) → ((session : ℕ) → event ≡ Take session → ⊥) → taken outboxes event ≡ []
untaken outboxes (Begin d) other = refl
untaken outboxes (Msg d bytes mark) other = refl
untaken outboxes (Take d) other = absurd (other d refl)
untaken outboxes (End d) other = refl
untaken outboxes Stop other = refl
