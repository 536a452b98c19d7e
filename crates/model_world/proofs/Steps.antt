-- Each event leaves the draw device with the connections of the sessions that live.
use Rattle.std.proofs.Common.{◌≡◌, ◌<◌, ◌^◌, ℕ, Bool, true, false, eqb, List, [], Option, Some, None, refl, sym, ap, subst, ◌∙◌, arith, lit<}
use Rattle.std.specs.Map.{keys_of}
use Rattle.std.proofs.lemmas.Bool.{eqb-true, eqb-false}
use Rattle.r9_event.specs.declared.event.event.Event.{Event}
use Rattle.r9_event.specs.declared.event.event.Event.TheVariants.{Begin, Msg, Take, End, Stop}
use Rattle.r9_event.specs.declared.event.event.Opening.{Opening}
use Rattle.model_text.specs.text.Map.{lookup, with, and, without}
use Rattle.model_text.specs.map.Ascending.{Ascend}
use Rattle.model_text.proofs.map.Maps.{and-here, and-others, with-here, with-others, without-others}
use Rattle.model_text.proofs.map.Ascending.{without-here, ascend-and, ascend-with, ascend-without}
use Rattle.model_history.specs.event.Legal.{Roll, AllowedTo, roll_after}
use Rattle.model_draw.specs.draw.World as draw
use Rattle.model_draw.specs.draw.Orders.{with_root_rio}
use Rattle.model_world.specs.Session.{Session, fresh}
use Rattle.model_world.specs.Desktop.{Desktop, first_desktop}
use Rattle.model_world.specs.Whole.{client, desktop_for}
use Rattle.model_world.specs.World.{World, opened}
use Rattle.model_world.specs.Fids.{Left, cleared}
use Rattle.model_world.specs.Answer.{answer}
use Rattle.model_world.specs.Replay.{step, served, ended, first_answered, marked, settled_within, waiting_in, with_left}
use Rattle.model_world.specs.Links.{AreCounted, AreKnown, AreLinked, IsLinked, IsNext, KeepsOthers, begun_after, has_connection, is_connected}
use Rattle.model_world.proofs.Connections.{numbers_of}
use Rattle.model_world.proofs.Desktops.{device_of, keeps_connections}
use Rattle.model_world.proofs.Answers.{Holds, HoldsSome, answer_holds, cleared_left, one_holds}
use Rattle.model_world.proofs.Settling.{IfNext, all_in, first_leaves, settled_keeps}
use Rattle.model_world.proofs.Others.{some_is}

client_of_another : (c d n m : ℕ) → n < 2 ^ 26 → m < 2 ^ 26 → client d n ≡ client c m → d ≡ c
client_of_another c d n m below few same = omega (arith, same)

-- the device has the connections of a session that lives
pub linked_of : (device : draw.World) (sessions : List (ℕ × Session)) (c : ℕ) (session : Session) → AreLinked device sessions → lookup sessions c ≡ Some session → IsLinked c session.made session.connections device
linked_of device sessions c session linked at = record {
  counted = linked.counted c session at;
  ordered = linked.ordered;
  linked = λ n few. linked.linked c n few ∙ ap (λ (found : Option Session). has_connection found n) at;
}

-- one session has changed, and the device with it
pub record Changed (world : World) (c : ℕ) (device : draw.World) (sessions : List (ℕ × Session)) (now : Option Session) : Type 0 where
  pub here : lookup sessions c ≡ now
  pub others : (d : ℕ) → (d ≡ c → ⊥) → lookup sessions d ≡ lookup world.sessions d
  pub ascending : Ascend (keys_of sessions)
  pub counted : (session : Session) → now ≡ Some session → AreCounted session.made session.connections
  pub ordered : Ascend (numbers_of device)
  pub linked : (n : ℕ) → n < 2 ^ 26 → is_connected device (client c n) ≡ has_connection now n
  pub kept : KeepsOthers c world.desktop.device device

changed_linked : (world : World) (c : ℕ) (device : draw.World) (sessions : List (ℕ × Session)) (now : Option Session) → AreLinked world.desktop.device world.sessions → Changed world c device sessions now
    → AreLinked device sessions
changed_linked world c device sessions now linked changed = record {
  counted = λ d session at. counted_by d session at (eqb d c) refl;
  ordered = changed.ordered;
  ascending = changed.ascending;
  linked = λ d n few. linked_by d n few (eqb d c) refl;
}
  where
    counted_by : (d : ℕ) (session : Session) → lookup sessions d ≡ Some session → (b : Bool) → eqb d c ≡ b → AreCounted session.made session.connections
    counted_by d session at true is =
        let same : d ≡ c = eqb-true d c is in changed.counted session (sym changed.here ∙ ap (λ (k : ℕ). lookup sessions k) (sym same) ∙ at)
    counted_by d session at false is = linked.counted d session (sym (changed.others d (λ same. eqb-false d c is same)) ∙ at)

    linked_by : (d n : ℕ) → n < 2 ^ 26 → (b : Bool) → eqb d c ≡ b → is_connected device (client d n) ≡ has_connection (lookup sessions d) n
    linked_by d n few true is =
        let same : d ≡ c = eqb-true d c is in
        subst (λ (k : ℕ). is_connected device (client k n) ≡ has_connection (lookup sessions k) n) (sym same)
        (changed.linked n few ∙ ap (λ (found : Option Session). has_connection found n) (sym changed.here))
    linked_by d n few false is =
        let apart : d ≡ c → ⊥ = λ same. eqb-false d c is same in
        changed.kept (client d n) (λ m small same. apart (client_of_another c d n m few small same))
        ∙ linked.linked d n few
        ∙ ap (λ (found : Option Session). has_connection found n) (sym (changed.others d apart))

counted_as : (s t : Session) → s ≡ t → AreCounted s.made s.connections → AreCounted t.made t.connections
counted_as s t same counted = subst (λ (x : Session). AreCounted x.made x.connections) same counted

begun_linked : (world : World) (c : ℕ) → AreLinked world.desktop.device world.sessions → lookup world.sessions c ≡ None → AreLinked world.desktop.device (and world.sessions c fresh)
begun_linked world c linked none = changed_linked world c world.desktop.device (and world.sessions c fresh) (Some fresh) linked (record {
  here = and-here world.sessions c fresh;
  others = λ d apart. and-others world.sessions c d fresh apart;
  ascending = ascend-and world.sessions c fresh linked.ascending;
  counted = λ session at. counted_as fresh session (some_is fresh session at) (record { few = lit< tt; within = tt; ascending = tt });
  ordered = linked.ordered;
  linked = λ n few. linked.linked c n few ∙ ap (λ (found : Option Session). has_connection found n) none;
  kept = λ k other. refl;
})

pub replied_linked : (world : World) (c : ℕ) (session : Session) (l : Left Desktop) → AreLinked world.desktop.device world.sessions → lookup world.sessions c ≡ Some session → Holds c (desktop_for c) device_of (keeps_connections c) world.desktop l
    → AreLinked l.rest.device (with world.sessions c l.session)
replied_linked world c session l linked at holds = changed_linked world c l.rest.device (with world.sessions c l.session) (Some l.session) linked (record {
  here = with-here world.sessions c session l.session at;
  others = λ d apart. with-others world.sessions c d l.session apart;
  ascending = ascend-with world.sessions c l.session linked.ascending;
  counted = λ s is. counted_as l.session s (some_is l.session s is) holds.linked.counted;
  ordered = holds.linked.ordered;
  linked = holds.linked.linked;
  kept = holds.others;
})

-- an answer to a read that waited keeps the connections
pub late_linked : (world : World) → AreLinked world.desktop.device world.sessions → IfNext (λ next. AreLinked next.desktop.device next.sessions) (first_answered world world.sessions)
late_linked world linked = first_leaves (λ next. AreLinked next.desktop.device next.sessions) world world.sessions (all_in world.sessions linked.ascending) (λ c session after at is.
    replied_linked world c session after linked at (let P : Option (Left Desktop) → Type 0 = λ o. HoldsSome c (desktop_for c) device_of (keeps_connections c) world.desktop o in subst P is (one_holds c (desktop_for c) device_of (keeps_connections c) session world.desktop (linked_of world.desktop.device world.sessions c session linked at))))

pub settled_linked : (most : ℕ) (world : World) → AreLinked world.desktop.device world.sessions → AreLinked (settled_within most world).0.desktop.device (settled_within most world).0.sessions
settled_linked most world linked = settled_keeps (λ w. AreLinked w.desktop.device w.sessions) late_linked most world linked

served_linked : (world : World) (c : ℕ) (bytes : List ℕ) (mark : Option ℕ) (found : Option Session) → AreLinked world.desktop.device world.sessions → lookup world.sessions c ≡ found
    → AreLinked (served world c bytes mark found).world.desktop.device (served world c bytes mark found).world.sessions
served_linked world c bytes mark None linked at = linked
served_linked world c bytes mark (Some session) linked at =
    let left = answer (desktop_for c) session world.desktop bytes mark in
    let after = with_left world c left in
    settled_linked (waiting_in after) after (replied_linked world c session left linked at (answer_holds c (desktop_for c) device_of (keeps_connections c) session world.desktop bytes mark (linked_of world.desktop.device world.sessions c session linked at)))

-- a session ends with all that goes with its fids
pub gone_linked : (world : World) (c : ℕ) (session : Session) → AreLinked world.desktop.device world.sessions → lookup world.sessions c ≡ Some session
    → AreLinked (cleared (desktop_for c) session world.desktop).1.device (without world.sessions c)
gone_linked world c session linked at =
    let gone = cleared_left c (desktop_for c) device_of (keeps_connections c) session world.desktop (linked_of world.desktop.device world.sessions c session linked at) in
    changed_linked world c (cleared (desktop_for c) session world.desktop).1.device (without world.sessions c) None linked (record {
      here = without-here world.sessions c linked.ascending;
      others = λ d apart. without-others world.sessions c d apart;
      ascending = ascend-without world.sessions c linked.ascending;
      counted = λ s is. absurd (cc is);
      ordered = gone.0.ordered;
      linked = gone.0.linked;
      kept = gone.1;
    })

ended_linked : (world : World) (c : ℕ) (found : Option Session) → AreLinked world.desktop.device world.sessions → lookup world.sessions c ≡ found
    → AreLinked (ended world c found).world.desktop.device (ended world c found).world.sessions
ended_linked world c None linked at = linked
ended_linked world c (Some session) linked at =
    let after : World = record world { desktop = (cleared (desktop_for c) session world.desktop).1; sessions = without world.sessions c } in
    settled_linked (waiting_in after) after (gone_linked world c session linked at)

pub step_linked : (world : World) (begun : ℕ) (event : Event) → IsNext begun event → AreKnown begun world.sessions → AreLinked world.desktop.device world.sessions
    → AreLinked (step world event).world.desktop.device (step world event).world.sessions
step_linked world begun (Begin c) next known linked = begun_linked world c linked (known c (omega (arith, next)))
step_linked world begun (Msg c bytes mark) next known linked = served_linked world c bytes mark (lookup world.sessions c) linked refl
step_linked world begun (Take c) next known linked = linked
step_linked world begun (End c) next known linked = ended_linked world c (lookup world.sessions c) linked refl
step_linked world begun Stop next known linked = linked

-- the first device has no connection
pub started_linked : (c : ℕ) (display : draw.Opening) → IsLinked c 0 [] (draw.started display)
unfolding draw.started
started_linked c display = record {
  counted = record { few = lit< tt; within = tt; ascending = tt };
  ordered = tt;
  linked = λ n few. refl;
}

-- and so that of the first desktop
pub first_linked : (c : ℕ) (display : draw.Opening) → IsLinked c 0 [] (first_desktop display).device
unfolding draw.started with_root_rio
first_linked c display = record {
  counted = record { few = lit< tt; within = tt; ascending = tt };
  ordered = tt;
  linked = λ n few. refl;
}

pub opened_linked : (opening : Opening) → AreLinked (opened opening).desktop.device (opened opening).sessions
unfolding draw.started with_root_rio
opened_linked opening = record {
  counted = λ c session at. absurd (cc at);
  ordered = tt;
  ascending = tt;
  linked = λ c n few. refl;
}

-- ---- sessions that have not begun

with_none : (sessions : List (ℕ × Session)) (c d : ℕ) (session : Session) → lookup sessions d ≡ None → (b : Bool) → eqb d c ≡ b → lookup sessions c ≡ Some session → (after : Session) → lookup (with sessions c after) d ≡ None
with_none sessions c d session none true is at after =
    let same : d ≡ c = eqb-true d c is in absurd (let two : None ≡ Some session = sym none ∙ ap (λ (k : ℕ). lookup sessions k) same ∙ at in cc two)
with_none sessions c d session none false is at after = with-others sessions c d after (λ same. eqb-false d c is same) ∙ none

abbrev pub IsKnown : (begun : ℕ) → World → Type 0
IsKnown begun world = Ascend (keys_of world.sessions) × AreKnown begun world.sessions

pub late_known : (begun : ℕ) (world : World) → IsKnown begun world → IfNext (IsKnown begun) (first_answered world world.sessions)
late_known begun world are = first_leaves (IsKnown begun) world world.sessions (all_in world.sessions are.0) (λ c session after at is. (
  ascend-with world.sessions c after.session are.0,
  λ d later. with_none world.sessions c d session (are.1 d later) (eqb d c) refl at after.session,
))

pub settled_known : (most begun : ℕ) (world : World) → Ascend (keys_of world.sessions) → AreKnown begun world.sessions → AreKnown begun (settled_within most world).0.sessions
settled_known most begun world ascend known = (settled_keeps (IsKnown begun) (late_known begun) most world (ascend, known)).1

served_known : (world : World) (c begun : ℕ) (bytes : List ℕ) (mark : Option ℕ) (found : Option Session) → Ascend (keys_of world.sessions) → AreKnown begun world.sessions → lookup world.sessions c ≡ found
    → AreKnown begun (served world c bytes mark found).world.sessions
served_known world c begun bytes mark None ascend known at = known
served_known world c begun bytes mark (Some session) ascend known at =
    let left = answer (desktop_for c) session world.desktop bytes mark in
    let after = with_left world c left in
    settled_known (waiting_in after) begun after (ascend-with world.sessions c left.session ascend) (λ d later. with_none world.sessions c d session (known d later) (eqb d c) refl at left.session)

without_none : (sessions : List (ℕ × Session)) (c d : ℕ) → Ascend (keys_of sessions) → lookup sessions d ≡ None → (b : Bool) → eqb d c ≡ b → lookup (without sessions c) d ≡ None
without_none sessions c d ascend none true is =
    let same : d ≡ c = eqb-true d c is in subst (λ (k : ℕ). lookup (without sessions c) k ≡ None) (sym same) (without-here sessions c ascend)
without_none sessions c d ascend none false is = without-others sessions c d (λ same. eqb-false d c is same) ∙ none

ended_known : (world : World) (c begun : ℕ) (found : Option Session) → Ascend (keys_of world.sessions) → AreKnown begun world.sessions → AreKnown begun (ended world c found).world.sessions
ended_known world c begun None ascend known = known
ended_known world c begun (Some session) ascend known =
    let after : World = record world { desktop = (cleared (desktop_for c) session world.desktop).1; sessions = without world.sessions c } in
    settled_known (waiting_in after) begun after (ascend-without world.sessions c ascend) (λ d later. without_none world.sessions c d ascend (known d later) (eqb d c) refl)

pub step_known : (world : World) (begun : ℕ) (event : Event) → IsNext begun event → Ascend (keys_of world.sessions) → AreKnown begun world.sessions
    → AreKnown (begun_after begun event) (step world event).world.sessions
step_known world begun (Begin c) next ascend known = λ d later. and-others world.sessions c d fresh (λ same. omega (arith, same)) ∙ known d (omega (arith, next))
step_known world begun (Msg c bytes mark) next ascend known = served_known world c begun bytes mark (lookup world.sessions c) ascend known refl
step_known world begun (Take c) next ascend known = known
step_known world begun (End c) next ascend known = ended_known world c begun (lookup world.sessions c) ascend known
step_known world begun Stop next ascend known = known

-- ---- the session that begins

pub begun_rolled : (roll : Roll) (event : Event) → (roll_after roll event).begun ≡ begun_after roll.begun event
begun_rolled roll (Begin c) = refl
begun_rolled roll (Msg c bytes mark) = refl
begun_rolled roll (Take c) = refl
begun_rolled roll (End c) = refl
begun_rolled roll Stop = refl

-- the mark of an event leaves which session begins
pub begun_marked : (begun : ℕ) (event : Event) (short : Option ℕ) → begun_after begun (marked event short) ≡ begun_after begun event
begun_marked begun event None = refl
begun_marked begun (Begin c) (Some k) = refl
begun_marked begun (Msg c bytes mark) (Some k) = refl
begun_marked begun (Take c) (Some k) = refl
begun_marked begun (End c) (Some k) = refl
begun_marked begun Stop (Some k) = refl

pub next_marked : (begun : ℕ) (event : Event) (short : Option ℕ) → IsNext begun event → IsNext begun (marked event short)
next_marked begun event None next = next
next_marked begun (Begin c) (Some k) next = next
next_marked begun (Msg c bytes mark) (Some k) next = tt
next_marked begun (Take c) (Some k) next = tt
next_marked begun (End c) (Some k) next = tt
next_marked begun Stop (Some k) next = tt

-- an event that is allowed begins the next session, if it begins one
pub next_of : (roll : Roll) (event : Event) → AllowedTo roll event → IsNext roll.begun event
next_of roll (Begin c) allowed = allowed.0
next_of roll (Msg c bytes mark) allowed = tt
next_of roll (Take c) allowed = tt
next_of roll (End c) allowed = tt
next_of roll Stop allowed = tt

-- and so it does with the mark with which it stands in the history
pub next_allowed : (roll : Roll) (event : Event) (short : Option ℕ) → AllowedTo roll event → IsNext roll.begun (marked event short)
next_allowed roll event short allowed = next_marked roll.begun event short (next_of roll event allowed)
