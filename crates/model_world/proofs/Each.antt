-- What each session keeps, each session of a world has.
use Rattle.std.proofs.Common.{◌≡◌, ℕ, Bool, true, false, eqb, List, [], ◌∷◌, Option, Some, None, refl, sym, ap, subst, ◌∙◌}
use Rattle.std.proofs.lemmas.Bool.{eqb-true, eqb-false}
use Rattle.r9_event.specs.declared.event.event.Event.{Event}
use Rattle.r9_event.specs.declared.event.event.Event.TheVariants.{Begin, Msg, Take, End, Stop}
use Rattle.r9_event.specs.declared.event.event.Opening.{Opening}
use Rattle.model_text.specs.text.Map.{lookup, with, and, without}
use Rattle.model_text.proofs.map.Maps.{and-here, and-others, with-here, with-others, without-others}
use Rattle.model_text.proofs.map.Ascending.{without-here, ascend-with, ascend-without}
use Rattle.model_world.specs.Session.{Session, fresh}
use Rattle.model_world.specs.Desktop.{Desktop}
use Rattle.model_world.specs.Whole.{desktop_for}
use Rattle.model_world.specs.World.{World, opened}
use Rattle.model_world.specs.Fids.{Left, cleared}
use Rattle.model_world.specs.Waiting.{one_answered}
use Rattle.model_world.specs.Answer.{answer}
use Rattle.model_world.specs.Replay.{ended, first_answered, served, settled_within, step, waiting_in, with_left, world_from}
use Rattle.model_world.specs.Standing.{AreInOrder}
use Rattle.model_world.proofs.Settling.{IfNext, all_in, first_leaves, settled_keeps}
use Rattle.model_world.proofs.Standing.{step_order}
use Rattle.model_world.proofs.Others.{some_is}

-- a session that begins has it, and keeps it at each message and each late answer
pub record Lasts (P : Session → Type 0) : Type 0 where
  pub anew : P fresh
  pub answered : (c : ℕ) (session : Session) (desktop : Desktop) (bytes : List ℕ) (mark : Option ℕ) → P session → P (answer (desktop_for c) session desktop bytes mark).session
  pub late : (c : ℕ) (session : Session) (desktop : Desktop) (after : Left Desktop) → P session → one_answered (desktop_for c) session desktop ≡ Some after → P after.session

-- each session of a map has it
abbrev pub HasEach : (P : Session → Type 0) → List (ℕ × Session) → Type 0
HasEach P sessions = (c : ℕ) (session : Session) → lookup sessions c ≡ Some session → P session

-- ---- changes of the map

with_each : (P : Session → Type 0) (sessions : List (ℕ × Session)) (c : ℕ) (old new : Session) → lookup sessions c ≡ Some old → P new → HasEach P sessions → HasEach P (with sessions c new)
with_each P sessions c old new there own all d session at = by (eqb d c) refl
  where
    by : (b : Bool) → eqb d c ≡ b → P session
    by true is =
        let same : d ≡ c = eqb-true d c is in
        subst P (some_is new session (sym (with-here sessions c old new there) ∙ ap (λ (k : ℕ). lookup (with sessions c new) k) (sym same) ∙ at)) own
    by false is = all d session (sym (with-others sessions c d new (λ same. eqb-false d c is same)) ∙ at)

and_each : (P : Session → Type 0) (sessions : List (ℕ × Session)) (c : ℕ) (new : Session) → P new → HasEach P sessions → HasEach P (and sessions c new)
and_each P sessions c new own all d session at = by (eqb d c) refl
  where
    by : (b : Bool) → eqb d c ≡ b → P session
    by true is =
        let same : d ≡ c = eqb-true d c is in
        subst P (some_is new session (sym (and-here sessions c new) ∙ ap (λ (k : ℕ). lookup (and sessions c new) k) (sym same) ∙ at)) own
    by false is = all d session (sym (and-others sessions c d new (λ same. eqb-false d c is same)) ∙ at)

without_each : (P : Session → Type 0) (world : World) (c : ℕ) → AreInOrder world → HasEach P world.sessions → HasEach P (without world.sessions c)
without_each P world c order all d session at = by (eqb d c) refl
  where
    by : (b : Bool) → eqb d c ≡ b → P session
    by true is =
        let same : d ≡ c = eqb-true d c is in
        absurd (let two : None ≡ Some session = sym (without-here world.sessions c order) ∙ ap (λ (k : ℕ). lookup (without world.sessions c) k) (sym same) ∙ at in cc two)
    by false is = all d session (sym (without-others world.sessions c d (λ same. eqb-false d c is same)) ∙ at)

-- ---- events

abbrev InOrderEach : (P : Session → Type 0) → World → Type 0
InOrderEach P world = AreInOrder world × HasEach P world.sessions

settled_each : (P : Session → Type 0) → Lasts P → (most : ℕ) (world : World) → AreInOrder world → HasEach P world.sessions → HasEach P (settled_within most world).0.sessions
settled_each P lasts most world order all = (settled_keeps (InOrderEach P) each most world (order, all)).1
  where
    each : (w : World) → InOrderEach P w → IfNext (InOrderEach P) (first_answered w w.sessions)
    each w are = first_leaves (InOrderEach P) w w.sessions (all_in w.sessions are.0) (λ c session after at is. (
      ascend-with w.sessions c after.session are.0,
      with_each P w.sessions c session after.session at (lasts.late c session w.desktop after (are.1 c session at) is) are.1,
    ))

served_each : (P : Session → Type 0) → Lasts P → (world : World) (c : ℕ) (bytes : List ℕ) (mark : Option ℕ) (found : Option Session) → AreInOrder world → HasEach P world.sessions → lookup world.sessions c ≡ found
    → HasEach P (served world c bytes mark found).world.sessions
served_each P lasts world c bytes mark None order all at = all
served_each P lasts world c bytes mark (Some session) order all at =
    let left = answer (desktop_for c) session world.desktop bytes mark in
    let after = with_left world c left in
    settled_each P lasts (waiting_in after) after (ascend-with world.sessions c left.session order)
    (with_each P world.sessions c session left.session at (lasts.answered c session world.desktop bytes mark (all c session at)) all)

ended_each : (P : Session → Type 0) → Lasts P → (world : World) (c : ℕ) (found : Option Session) → AreInOrder world → HasEach P world.sessions → HasEach P (ended world c found).world.sessions
ended_each P lasts world c None order all = all
ended_each P lasts world c (Some session) order all =
    let after : World = record world { desktop = (cleared (desktop_for c) session world.desktop).1; sessions = without world.sessions c } in
    settled_each P lasts (waiting_in after) after (ascend-without world.sessions c order) (without_each P world c order all)

step_each : (P : Session → Type 0) → Lasts P → (world : World) (event : Event) → AreInOrder world → HasEach P world.sessions → HasEach P (step world event).world.sessions
step_each P lasts world (Begin c) order all = and_each P world.sessions c fresh lasts.anew all
step_each P lasts world (Msg c bytes mark) order all = served_each P lasts world c bytes mark (lookup world.sessions c) order all refl
step_each P lasts world (Take c) order all = all
step_each P lasts world (End c) order all = ended_each P lasts world c (lookup world.sessions c) order all
step_each P lasts world Stop order all = all

world_each : (P : Session → Type 0) → Lasts P → (world : World) (events : List Event) → AreInOrder world → HasEach P world.sessions → HasEach P (world_from world events).sessions
world_each P lasts world [] order all = all
world_each P lasts world (event ∷ events) order all = world_each P lasts (step world event).world events (step_order world event order) (step_each P lasts world event order all)

pub history_each : (P : Session → Type 0) → Lasts P → (opening : Opening) (events : List Event) → HasEach P (world_from (opened opening) events).sessions
history_each P lasts opening events = world_each P lasts (opened opening) events tt (λ c session at. absurd (cc at))
