-- What the world of a legal history keeps of a session.
use Rattle.std.proofs.Common.{◌≡◌, ◌≤◌, ◌<◌, ◌↔◌, ℕ, Bool, true, false, eqb, List, [], ◌∷◌, ◌++◌, Option, Some, None, refl, sym, ap, subst, ◌∙◌, arith, append-nil}
use Rattle.std.specs.Prelude.{Contains, IsSome, if◌then◌else◌}
use Rattle.std.specs.Option.{option_map}
use Rattle.std.proofs.lemmas.Bool.{eqb-true, eqb-false}
use Rattle.std.proofs.lemmas.List.Elements.{Contains-append_left, Contains-push}
use Rattle.r9_event.specs.declared.event.event.Event.{Event}
use Rattle.r9_event.specs.declared.event.event.Event.TheVariants.{Begin, Msg, Take, End, Stop}
use Rattle.r9_event.specs.declared.event.event.Opening.{Opening}
use Rattle.model_text.specs.text.Map.{lookup}
use Rattle.model_text.proofs.map.Keys.{eqb-same, not_key}
use Rattle.model_history.specs.event.Legal.{Roll, AllowedTo, IsLegal, no_sessions, roll_after, roll_of}
use Rattle.model_history.proofs.event.Rolls.{roll_from-push}
use Rattle.model_served.specs.session.Server.{is_msg, message_in, messages_of}
use Rattle.model_world.specs.Session.{Session, max_msize}
use Rattle.model_world.specs.Whole.{desktop_for}
use Rattle.model_world.specs.World.{World, opened}
use Rattle.model_world.specs.Answer.{answer, taking}
use Rattle.model_world.specs.Replay.{closing_tag, replay, served, step}
use Rattle.model_world.specs.Standing.{AreInOrder}
use Rattle.model_world.proofs.Histories.{world_from-push}
use Rattle.model_served.specs.served.Served.{closed_from, closing, first_of, size_after, size_from}
use Rattle.model_served.proofs.served.Pushed.{by_events, by_history, closed_from-push, messages_of-push, size_from-push}
use Rattle.model_served.proofs.served.Rolls.{begun_lives, ended_lives_not, lived_before, living_begun, others_live}
use Rattle.model_served.proofs.served.Sizes.{answer_closed, answer_size}
use Rattle.model_served.proofs.served.Seen.{Spares, history_order, seen, seen_at, seen_there, served_seen, step_begins, step_ends, step_spares}

-- ---- what is no message of a session

unsaid : (c : ℕ) (event : Event) → is_msg c event ≡ false → message_in c event ≡ []
unsaid c (Begin d) none = refl
unsaid c (Msg d bytes mark) none = ap (λ (b : Bool). if b then bytes ∷ [] else []) none
unsaid c (Take d) none = refl
unsaid c (End d) none = refl
unsaid c Stop none = refl

unclosing : (c : ℕ) (event : Event) (tag : Option ℕ) → is_msg c event ≡ false → closing c event tag ≡ None
unclosing c (Begin d) tag none = refl
unclosing c (Msg d bytes mark) tag none = ap (λ (b : Bool). if b then tag else None) none
unclosing c (Take d) tag none = refl
unclosing c (End d) tag none = refl
unclosing c Stop tag none = refl

first_none : (o : Option ℕ) → first_of o None ≡ o
first_none None = refl
first_none (Some tag) = refl

none_first : (o later : Option ℕ) → first_of o later ≡ None → (o ≡ None) × (later ≡ None)
none_first None later none = (refl, none)
none_first (Some tag) later none = absurd (cc none)

same_messages : (c : ℕ) (events : List Event) (event : Event) → is_msg c event ≡ false → messages_of c (events ++ event ∷ []) ≡ messages_of c events
same_messages c events event none =
    messages_of-push c events event ∙ ap (λ (more : List (List ℕ)). messages_of c events ++ more) (unsaid c event none) ∙ append-nil (messages_of c events)

pub same_closed : (world : World) (events : List Event) (event : Event) (c : ℕ) → is_msg c event ≡ false → closed_from world (events ++ event ∷ []) c None ≡ closed_from world events c None
same_closed world events event c none =
    closed_from-push world events event c None ∙ ap (λ (tag : Option ℕ). first_of (closed_from world events c None) tag) (unclosing c event _ none) ∙ first_none (closed_from world events c None)

-- ---- a session that has not begun

-- it has said nothing, and nothing has closed it
abbrev IsNew : (c : ℕ) → World → List Event → Type 0
IsNew c world events = (messages_of c events ≡ []) × (closed_from world events c None ≡ None)

still_new : (c : ℕ) (world : World) (events : List Event) (event : Event) → is_msg c event ≡ false → IsNew c world events → IsNew c world (events ++ event ∷ [])
still_new c world events event none new = (same_messages c events event none ∙ new.0, same_closed world events event c none ∙ new.1)

new_after : (c : ℕ) (world : World) (events : List Event) (roll : Roll) (event : Event) → AllowedTo roll event → ((d : ℕ) → Contains roll.live d → (1 ≤ d) × (d ≤ roll.begun))
    → (roll.begun < c → IsNew c world events) → (roll_after roll event).begun < c → IsNew c world (events ++ event ∷ [])
new_after c world events roll (Begin d) allowed begun is above = still_new c world events (Begin d) refl (is (omega (arith, above, allowed.0)))
new_after c world events roll (Msg d bytes mark) allowed begun is above =
    let within = begun d allowed.0 in still_new c world events (Msg d bytes mark) (not_key d c (λ same. omega (arith, same, within.1, above))) (is above)
new_after c world events roll (Take d) allowed begun is above = still_new c world events (Take d) refl (is above)
new_after c world events roll (End d) allowed begun is above = still_new c world events (End d) refl (is above)
new_after c world events roll Stop allowed begun is above = still_new c world events Stop refl (is above)

unbegun_new : (c : ℕ) (opening : Opening) (events : List Event) → IsLegal events → (roll_of events).begun < c → IsNew c (opened opening) events
unbegun_new c opening = by_history (λ all. (roll_of all).begun < c → IsNew c (opened opening) all) (λ _. (refl, refl)) (λ before event lawful allowed is.
    subst (λ (roll : Roll). roll.begun < c → IsNew c (opened opening) (before ++ event ∷ [])) (sym (roll_from-push no_sessions before event))
    (new_after c (opened opening) before (roll_of before) event allowed.1 (living_begun before lawful) is))

-- ---- how a session is closed, and the size of its messages

abbrev KeepsAs : Option (Option ℕ × ℕ) → (closed : Option ℕ) → (size : ℕ) → Type 0
KeepsAs None closed size = Unit {0}
KeepsAs (Some s) closed size = (s.0 ≡ closed) × (s.0 ≡ None → s.1 ≡ size)

keeps_as : (a b : Option (Option ℕ × ℕ)) (closed still : Option ℕ) (size same : ℕ) → b ≡ a → still ≡ closed → same ≡ size → KeepsAs a closed size → KeepsAs b still same
keeps_as a b closed still size same e f g keeps =
    subst (λ (o : Option (Option ℕ × ℕ)). KeepsAs o still same) (sym e) (subst (λ (t : Option ℕ). KeepsAs a t same) (sym f) (subst (λ (n : ℕ). KeepsAs a closed n) (sym g) keeps))

abbrev Keeps : (c : ℕ) → Opening → List Event → Type 0
Keeps c opening events = KeepsAs (seen_at (replay opening events).sessions c) (closed_from (opened opening) events c None) (size_from max_msize (messages_of c events))

seen_push : (c : ℕ) (opening : Opening) (events : List Event) (event : Event)
    → seen_at (replay opening (events ++ event ∷ [])).sessions c ≡ seen_at (step (replay opening events) event).world.sessions c
seen_push c opening events event = ap (λ (w : World). seen_at w.sessions c) (world_from-push (opened opening) events event)

keeps_spared : (c : ℕ) (opening : Opening) (events : List Event) (event : Event) → Spares c event → is_msg c event ≡ false → Keeps c opening events → Keeps c opening (events ++ event ∷ [])
keeps_spared c opening events event spares none keeps = keeps_as _ _ _ _ _ _
    (seen_push c opening events event ∙ step_spares c (replay opening events) event (history_order opening events) spares)
    (same_closed (opened opening) events event c none) (ap (λ (said : List (List ℕ)). size_from max_msize said) (same_messages c events event none)) keeps

keeps_gone : (c : ℕ) (opening : Opening) (events : List Event) (event : Event) → seen_at (step (replay opening events) event).world.sessions c ≡ None → Keeps c opening (events ++ event ∷ [])
keeps_gone c opening events event none = keeps_as None _ _ _ _ _ (seen_push c opening events event ∙ none) refl refl tt

keeps_begun : (c : ℕ) (opening : Opening) (events : List Event) → IsNew c (opened opening) events → Keeps c opening (events ++ Begin c ∷ [])
keeps_begun c opening events new =
    let still = still_new c (opened opening) events (Begin c) refl new in
    keeps_as (Some (None, max_msize)) _ None _ max_msize _ (seen_push c opening events (Begin c) ∙ step_begins c (replay opening events)) still.1 (ap (λ (said : List (List ℕ)). size_from max_msize said) still.0) (refl, λ _. refl)

answer_keeps : (c : ℕ) (world : World) (session : Session) (bytes : List ℕ) (mark : Option ℕ) (closed : Option ℕ) (size : ℕ) → KeepsAs (Some (seen session)) closed size
    → KeepsAs (Some (seen (answer (desktop_for c) session world.desktop bytes mark).session)) (first_of closed (closing_tag bytes (taking session bytes))) (size_after size bytes)
answer_keeps c world session bytes mark closed size keeps =
    let tag = closing_tag bytes (taking session bytes) in
    let closes = answer_closed (desktop_for c) session world.desktop bytes mark in (
      closes ∙ ap (λ (o : Option ℕ). first_of o tag) keeps.0,
      λ none.
          let both = none_first session.closed tag (sym closes ∙ none) in
          answer_size (desktop_for c) session world.desktop bytes mark both.0 both.1 ∙ ap (λ (n : ℕ). size_after n bytes) (keeps.1 both.0),
    )

keeps_said : (c : ℕ) (opening : Opening) (events : List Event) (bytes : List ℕ) (mark : Option ℕ) → Keeps c opening events → Keeps c opening (events ++ Msg c bytes mark ∷ [])
keeps_said c opening events bytes mark keeps = by (lookup (replay opening events).sessions c) refl
  where
    world : World
    world = replay opening events

    event : Event
    event = Msg c bytes mark

    here : (tag : Option ℕ) → closing c event tag ≡ tag
    here tag = ap (λ (b : Bool). if b then tag else None) (eqb-same c)

    said : message_in c event ≡ bytes ∷ []
    said = ap (λ (b : Bool). if b then bytes ∷ [] else []) (eqb-same c)

    by : (found : Option Session) → lookup world.sessions c ≡ found → Keeps c opening (events ++ event ∷ [])
    by None at = keeps_gone c opening events event (ap (λ (o : Option Session). seen_at (served world c bytes mark o).world.sessions c) at ∙ seen_there world.sessions c None at)
    by (Some session) at = keeps_as _ _ _ _ _ _
        (seen_push c opening events event ∙ ap (λ (o : Option Session). seen_at (served world c bytes mark o).world.sessions c) at ∙ served_seen c world bytes mark session (history_order opening events) at)
        (closed_from-push (opened opening) events event c None
        ∙ ap (λ (tag : Option ℕ). first_of (closed_from (opened opening) events c None) tag) (here (step world event).closed ∙ ap (λ (o : Option Session). (served world c bytes mark o).closed) at))
        (ap (λ (all : List (List ℕ)). size_from max_msize all) (messages_of-push c events event ∙ ap (λ (more : List (List ℕ)). messages_of c events ++ more) said) ∙ size_from-push max_msize (messages_of c events) bytes)
        (answer_keeps c world session bytes mark (closed_from (opened opening) events c None) (size_from max_msize (messages_of c events))
        (keeps_as _ _ _ _ _ _ (sym (seen_there world.sessions c (Some session) at)) refl refl keeps))

-- of two sessions, the same or not
by_same : (P : Type 0) (c d : ℕ) → (c ≡ d → P) → ((c ≡ d → ⊥) → P) → P
by_same P c d same other = by (eqb c d) refl
  where
    by : (b : Bool) → eqb c d ≡ b → P
    by true at = same (eqb-true c d at)
    by false at = other (λ is. eqb-false c d at is)

keeps_after : (c : ℕ) (opening : Opening) (events : List Event) (event : Event) → IsLegal events → AllowedTo (roll_of events) event → Keeps c opening events → Keeps c opening (events ++ event ∷ [])
keeps_after c opening events (Begin d) legal allowed keeps = by_same (Keeps c opening (events ++ Begin d ∷ [])) c d
    (λ same. subst (λ (k : ℕ). Keeps c opening (events ++ Begin k ∷ [])) same (keeps_begun c opening events (unbegun_new c opening events legal (omega (arith, same, allowed.0)))))
    (λ other. keeps_spared c opening events (Begin d) other refl keeps)
keeps_after c opening events (Msg d bytes mark) legal allowed keeps = by_same (Keeps c opening (events ++ Msg d bytes mark ∷ [])) c d
    (λ same. subst (λ (k : ℕ). Keeps c opening (events ++ Msg k bytes mark ∷ [])) same (keeps_said c opening events bytes mark keeps))
    (λ other. keeps_spared c opening events (Msg d bytes mark) other (not_key d c (λ same. other (sym same))) keeps)
keeps_after c opening events (Take d) legal allowed keeps = keeps_spared c opening events (Take d) tt refl keeps
keeps_after c opening events (End d) legal allowed keeps = by_same (Keeps c opening (events ++ End d ∷ [])) c d
    (λ same. subst (λ (k : ℕ). Keeps c opening (events ++ End k ∷ [])) same (keeps_gone c opening events (End c) (step_ends c (replay opening events) (history_order opening events))))
    (λ other. keeps_spared c opening events (End d) other refl keeps)
keeps_after c opening events Stop legal allowed keeps = keeps_spared c opening events Stop tt refl keeps

history_keeps : (opening : Opening) (events : List Event) (c : ℕ) (session : Session) → IsLegal events → lookup (replay opening events).sessions c ≡ Some session
    → KeepsAs (Some (seen session)) (closed_from (opened opening) events c None) (size_from max_msize (messages_of c events))
history_keeps opening events c session legal at =
    keeps_as _ _ _ _ _ _ (sym (seen_there (replay opening events).sessions c (Some session) at)) refl refl
    (by_history (λ all. Keeps c opening all) tt (λ before event lawful allowed keeps. keeps_after c opening before event lawful allowed.1 keeps) events legal)

pub kept_closed : (opening : Opening) (events : List Event) (c : ℕ) (session : Session) → IsLegal events → lookup (replay opening events).sessions c ≡ Some session → session.closed ≡ closed_from (opened opening) events c None
kept_closed opening events c session legal at = (history_keeps opening events c session legal at).0

pub kept_size : (opening : Opening) (events : List Event) (c : ℕ) (session : Session) → IsLegal events → lookup (replay opening events).sessions c ≡ Some session → session.closed ≡ None
    → session.msize ≡ size_from max_msize (messages_of c events)
kept_size opening events c session legal at none = (history_keeps opening events c session legal at).1 none

-- ---- who lives

abbrev IsThere : (c : ℕ) → World → Type 0
IsThere c world = IsSome (seen_at world.sessions c)

abbrev LivesThere : (c : ℕ) → Roll → World → Type 0
LivesThere c roll world = Contains roll.live c ↔ IsThere c world

there_by : (sessions : List (ℕ × Session)) (c : ℕ) (s : Option ℕ × ℕ) → seen_at sessions c ≡ Some s → IsSome (seen_at sessions c)
there_by sessions c s e = subst (λ (o : Option (Option ℕ × ℕ)). IsSome o) (sym e) refl

none_there : (sessions : List (ℕ × Session)) (c : ℕ) → seen_at sessions c ≡ None → IsSome (seen_at sessions c) → ⊥
none_there sessions c e some = let none : false ≡ true = subst (λ (o : Option (Option ℕ × ℕ)). IsSome o) e some in cc none

lives_spared : (c : ℕ) (roll next : Roll) (world : World) (event : Event) → AreInOrder world → Spares c event → (Contains next.live c ↔ Contains roll.live c) → LivesThere c roll world → LivesThere c next (step world event).world
lives_spared c roll next world event order spares live is =
    let same = step_spares c world event order spares in (
      λ has. subst (λ (o : Option (Option ℕ × ℕ)). IsSome o) (sym same) (is.0 (live.0 has)),
      λ some. live.1 (is.1 (subst (λ (o : Option (Option ℕ × ℕ)). IsSome o) same some)),
    )

lives_said : (c : ℕ) (roll : Roll) (world : World) (bytes : List ℕ) (mark : Option ℕ) → AreInOrder world → LivesThere c roll world → LivesThere c roll (step world (Msg c bytes mark)).world
lives_said c roll world bytes mark order is = by (lookup world.sessions c) refl
  where
    by : (found : Option Session) → lookup world.sessions c ≡ found → LivesThere c roll (step world (Msg c bytes mark)).world
    by None at =
        let same = ap (λ (o : Option Session). seen_at (served world c bytes mark o).world.sessions c) at in
        (λ has. subst (λ (o : Option (Option ℕ × ℕ)). IsSome o) (sym same) (is.0 has), λ some. is.1 (subst (λ (o : Option (Option ℕ × ℕ)). IsSome o) same some))
    by (Some session) at =
        let same = ap (λ (o : Option Session). seen_at (served world c bytes mark o).world.sessions c) at ∙ served_seen c world bytes mark session order at in
        (λ _. there_by (step world (Msg c bytes mark)).world.sessions c _ same, λ _. is.1 (there_by world.sessions c _ (seen_there world.sessions c (Some session) at)))

lives_after : (c : ℕ) (roll : Roll) (world : World) (event : Event) → AreInOrder world → LivesThere c roll world → LivesThere c (roll_after roll event) (step world event).world
lives_after c roll world (Begin d) order is = by_same (LivesThere c (roll_after roll (Begin d)) (step world (Begin d)).world) c d
    (λ same. subst (λ (k : ℕ). LivesThere c (roll_after roll (Begin k)) (step world (Begin k)).world) same (λ _. there_by (step world (Begin c)).world.sessions c _ (step_begins c world), λ _. Contains-push roll.live c))
    (λ other. lives_spared c roll (roll_after roll (Begin d)) world (Begin d) order other (λ has. begun_lives roll.live c d (λ same. other (sym same)) has, λ has. Contains-append_left roll.live (d ∷ []) c has) is)
lives_after c roll world (Msg d bytes mark) order is = by_same (LivesThere c roll (step world (Msg d bytes mark)).world) c d
    (λ same. subst (λ (k : ℕ). LivesThere c roll (step world (Msg k bytes mark)).world) same (lives_said c roll world bytes mark order is))
    (λ other. lives_spared c roll roll world (Msg d bytes mark) order other (λ has. has, λ has. has) is)
lives_after c roll world (Take d) order is = lives_spared c roll roll world (Take d) order tt (λ has. has, λ has. has) is
lives_after c roll world (End d) order is = by_same (LivesThere c (roll_after roll (End d)) (step world (End d)).world) c d
    (λ same. subst (λ (k : ℕ). LivesThere c (roll_after roll (End k)) (step world (End k)).world) same
    (λ has. absurd (ended_lives_not roll.live c has), λ some. absurd (none_there (step world (End c)).world.sessions c (step_ends c world order) some)))
    (λ other. lives_spared c roll (roll_after roll (End d)) world (End d) order other (λ has. lived_before roll.live d c has, λ has. others_live roll.live d c other has) is)
lives_after c roll world Stop order is = lives_spared c roll roll world Stop order tt (λ has. has, λ has. has) is

history_lives : (c : ℕ) (opening : Opening) (events : List Event) → LivesThere c (roll_of events) (replay opening events)
history_lives c opening = by_events (λ all. LivesThere c (roll_of all) (replay opening all)) (λ has. absurd (omega (arith, has.1)), λ some. absurd (none_there [] c refl some)) (λ before event is.
    subst (λ (roll : Roll). LivesThere c roll (replay opening (before ++ event ∷ []))) (sym (roll_from-push no_sessions before event))
    (subst (λ (world : World). LivesThere c (roll_after (roll_of before) event) world) (sym (world_from-push (opened opening) before event))
    (lives_after c (roll_of before) (replay opening before) event (history_order opening before) is)))

pub live_there : (opening : Opening) (events : List Event) (c : ℕ) → IsLegal events → Contains (roll_of events).live c ↔ IsSome (lookup (replay opening events).sessions c)
live_there opening events c legal =
    let is = history_lives c opening events in
    (λ has. back (lookup (replay opening events).sessions c) (is.0 has), λ some. is.1 (there (lookup (replay opening events).sessions c) some))
  where
    there : (o : Option Session) → IsSome o → IsSome (option_map seen o)
    there None some = some
    there (Some session) some = refl

    back : (o : Option Session) → IsSome (option_map seen o) → IsSome o
    back None some = some
    back (Some session) some = refl
