-- What an event leaves of a session: by which tag it is closed, and how long its next message may be.
use Rattle.std.proofs.Common.{◌≡◌, ℕ, Bool, true, false, eqb, List, [], ◌∷◌, ◌++◌, Option, Some, None, Ok, Err, refl, sym, ap, subst, ◌∙◌}
use Rattle.std.specs.Prelude.{IfSome}
use Rattle.std.specs.Option.{option_map}
use Rattle.std.proofs.lemmas.Bool.{eqb-true, eqb-false}
use Rattle.r9_event.specs.declared.event.event.Event.{Event}
use Rattle.r9_event.specs.declared.event.event.Event.TheVariants.{Begin, Msg, Take, End, Stop}
use Rattle.r9_event.specs.declared.event.event.Opening.{Opening}
use Rattle.model_text.specs.text.Map.{lookup, with, and, without}
use Rattle.model_text.specs.text.Outcome.{Outcome}
use Rattle.model_text.proofs.map.Maps.{and-here, and-others, with-here, with-others, without-others}
use Rattle.model_text.proofs.map.Ascending.{without-here, ascend-with, ascend-without}
use Rattle.model_world.specs.Session.{Session, Wait, fresh, max_msize}
use Rattle.model_world.specs.Outside.{Outside}
use Rattle.model_world.specs.Desktop.{Desktop}
use Rattle.model_world.specs.Whole.{desktop_for}
use Rattle.model_world.specs.World.{World, opened}
use Rattle.model_world.specs.Fids.{Left, cleared}
use Rattle.model_world.specs.Reading.{Given}
use Rattle.model_world.specs.Waiting.{answered_or, first_of, one_answered, wait_answer}
use Rattle.model_world.specs.Answer.{answer}
use Rattle.model_world.specs.Replay.{ended, first_answered, replay, served, settled_within, step, waiting_in, with_left, world_from}
use Rattle.model_world.specs.Standing.{AreInOrder}
use Rattle.model_world.proofs.Settling.{IfNext, all_in, first_leaves, settled_keeps}
use Rattle.model_world.proofs.Standing.{step_order}

-- the tag by which a session is closed, and the greatest size of its messages
abbrev pub seen : Session → Option ℕ × ℕ
seen session = (session.closed, session.msize)

abbrev pub seen_at : List (ℕ × Session) → (c : ℕ) → Option (Option ℕ × ℕ)
seen_at sessions c = option_map seen (lookup sessions c)

pub seen_there : (sessions : List (ℕ × Session)) (c : ℕ) (found : Option Session) → lookup sessions c ≡ found → seen_at sessions c ≡ option_map seen found
seen_there sessions c found at = ap (λ (o : Option Session). option_map seen o) at

-- ---- a late answer

abbrev LeavesSeen : {S : Type 0} → Session → Option (Left S) → Type 0
LeavesSeen session o = IfSome o (λ after. seen after.session ≡ seen session)

late_seen : {S : Type 0} (session whole : Session) (rest : S) (tag : ℕ) (wait : Wait) (o : Option (Outcome (Given S))) (later : Option (Left S)) → seen session ≡ seen whole → LeavesSeen whole later
    → LeavesSeen whole (answered_or session rest tag wait o later)
late_seen session whole rest tag wait None later same keeps = keeps
late_seen session whole rest tag wait (Some (Err n)) later same keeps = same
late_seen session whole rest tag wait (Some (Ok got)) later same keeps = same

first_seen : {S : Type 0} (outside : Outside S) (session : Session) (rest : S) (before after : List (ℕ × Wait)) → LeavesSeen session (first_of outside session rest before after)
unfolding first_of
first_seen outside session rest before [] = tt
first_seen outside session rest before ((tag, wait) ∷ after) =
    late_seen (record session { waiting = before ++ after }) session rest tag wait (wait_answer outside session rest wait) (first_of outside session rest (before ++ (tag, wait) ∷ []) after) refl
    (first_seen outside session rest (before ++ (tag, wait) ∷ []) after)

one_seen : (c : ℕ) (session : Session) (desktop : Desktop) (after : Left Desktop) → one_answered (desktop_for c) session desktop ≡ Some after → seen after.session ≡ seen session
one_seen c session desktop after is = let P : Option (Left Desktop) → Type 0 = λ o. LeavesSeen session o in subst P is (first_seen (desktop_for c) session desktop [] session.waiting)

-- ---- changes of the map

pub with_seen : (sessions : List (ℕ × Session)) (c d : ℕ) (old new : Session) → lookup sessions d ≡ Some old → (c ≡ d → seen new ≡ seen old) → seen_at (with sessions d new) c ≡ seen_at sessions c
with_seen sessions c d old new there keeps = by (eqb c d) refl
  where
    by : (b : Bool) → eqb c d ≡ b → seen_at (with sessions d new) c ≡ seen_at sessions c
    by true is =
        let same : c ≡ d = eqb-true c d is in
        let here : lookup (with sessions d new) c ≡ Some new = ap (λ (k : ℕ). lookup (with sessions d new) k) same ∙ with-here sessions d old new there in
        let before : lookup sessions c ≡ Some old = ap (λ (k : ℕ). lookup sessions k) same ∙ there in
        seen_there (with sessions d new) c (Some new) here ∙ ap Some (keeps same) ∙ sym (seen_there sessions c (Some old) before)
    by false is = ap (λ (o : Option Session). option_map seen o) (with-others sessions d c new (λ same. eqb-false c d is same))

-- ---- answers to reads that waited

settled_seen : (c most : ℕ) (world : World) → AreInOrder world → seen_at (settled_within most world).0.sessions c ≡ seen_at world.sessions c
settled_seen c most world order = (settled_keeps Same each most world (order, refl)).1
  where
    Same : World → Type 0
    Same w = AreInOrder w × (seen_at w.sessions c ≡ seen_at world.sessions c)

    each : (w : World) → Same w → IfNext Same (first_answered w w.sessions)
    each w are = first_leaves Same w w.sessions (all_in w.sessions are.0) (λ d session after at is. (
      ascend-with w.sessions d after.session are.0,
      with_seen w.sessions c d session after.session at (λ _. one_seen d session w.desktop after is) ∙ are.1,
    ))

-- ---- events

-- session c does not begin nor end by it, and it is no message of c
abbrev pub Spares : (c : ℕ) → Event → Type 0
Spares c (Begin d) = c ≡ d → ⊥
Spares c (Msg d bytes mark) = c ≡ d → ⊥
Spares c (Take d) = Unit {0}
Spares c (End d) = c ≡ d → ⊥
Spares c Stop = Unit {0}

served_spares : (c : ℕ) (world : World) (d : ℕ) (bytes : List ℕ) (mark : Option ℕ) (found : Option Session) → (c ≡ d → ⊥) → AreInOrder world → lookup world.sessions d ≡ found
    → seen_at (served world d bytes mark found).world.sessions c ≡ seen_at world.sessions c
served_spares c world d bytes mark None other order at = refl
served_spares c world d bytes mark (Some session) other order at =
    let left = answer (desktop_for d) session world.desktop bytes mark in
    let after = with_left world d left in
    settled_seen c (waiting_in after) after (ascend-with world.sessions d left.session order) ∙ with_seen world.sessions c d session left.session at (λ same. absurd (other same))

ended_spares : (c : ℕ) (world : World) (d : ℕ) (found : Option Session) → (c ≡ d → ⊥) → AreInOrder world → seen_at (ended world d found).world.sessions c ≡ seen_at world.sessions c
ended_spares c world d None other order = refl
ended_spares c world d (Some session) other order =
    let after : World = record world { desktop = (cleared (desktop_for d) session world.desktop).1; sessions = without world.sessions d } in
    settled_seen c (waiting_in after) after (ascend-without world.sessions d order) ∙ ap (λ (o : Option Session). option_map seen o) (without-others world.sessions d c other)

pub step_spares : (c : ℕ) (world : World) (event : Event) → AreInOrder world → Spares c event → seen_at (step world event).world.sessions c ≡ seen_at world.sessions c
step_spares c world (Begin d) order other = ap (λ (o : Option Session). option_map seen o) (and-others world.sessions d c fresh other)
step_spares c world (Msg d bytes mark) order other = served_spares c world d bytes mark (lookup world.sessions d) other order refl
step_spares c world (Take d) order other = refl
step_spares c world (End d) order other = ended_spares c world d (lookup world.sessions d) other order
step_spares c world Stop order other = refl

pub step_begins : (c : ℕ) (world : World) → seen_at (step world (Begin c)).world.sessions c ≡ Some (None, max_msize)
step_begins c world = seen_there (and world.sessions c fresh) c (Some fresh) (and-here world.sessions c fresh)

ended_ends : (c : ℕ) (world : World) (found : Option Session) → AreInOrder world → lookup world.sessions c ≡ found → seen_at (ended world c found).world.sessions c ≡ None
ended_ends c world None order at = seen_there world.sessions c None at
ended_ends c world (Some session) order at =
    let after : World = record world { desktop = (cleared (desktop_for c) session world.desktop).1; sessions = without world.sessions c } in
    settled_seen c (waiting_in after) after (ascend-without world.sessions c order) ∙ seen_there after.sessions c None (without-here world.sessions c order)

pub step_ends : (c : ℕ) (world : World) → AreInOrder world → seen_at (step world (End c)).world.sessions c ≡ None
step_ends c world order = ended_ends c world (lookup world.sessions c) order refl

-- what a message to a session leaves of it, and of one that is not there
pub served_seen : (c : ℕ) (world : World) (bytes : List ℕ) (mark : Option ℕ) (session : Session) → AreInOrder world → lookup world.sessions c ≡ Some session
    → seen_at (served world c bytes mark (Some session)).world.sessions c ≡ Some (seen (answer (desktop_for c) session world.desktop bytes mark).session)
served_seen c world bytes mark session order at =
    let left = answer (desktop_for c) session world.desktop bytes mark in
    let after = with_left world c left in
    settled_seen c (waiting_in after) after (ascend-with world.sessions c left.session order) ∙ seen_there after.sessions c (Some left.session) (with-here world.sessions c session left.session at)

-- ---- the world of a history

world_order : (world : World) (events : List Event) → AreInOrder world → AreInOrder (world_from world events)
world_order world [] order = order
world_order world (event ∷ events) order = world_order (step world event).world events (step_order world event order)

pub history_order : (opening : Opening) (events : List Event) → AreInOrder (replay opening events)
history_order opening events = world_order (opened opening) events tt
