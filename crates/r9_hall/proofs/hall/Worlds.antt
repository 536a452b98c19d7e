-- A world and one event more.
use Rattle.std.proofs.Common.{◌≡◌, ◌+◌, ◌-◌, ℕ, true, Option, refl, sym, subst, ◌∙◌, arith}
use Rattle.r9_event.specs.declared.event.event.Event.{Event}
use Rattle.r9_event.specs.declared.event.event.Opening.{Opening}
use Rattle.r9_event.specs.declared.event.event.Did.{Did}
use Rattle.model_world.specs.Links.{AreKnown, AreLinked, IsNext, begun_after}
use Rattle.model_world.specs.Replay.{marked}
use Rattle.model_world.specs.Standing.{AllWaitOn}
use Rattle.model_world.specs.World.{World, opened}
use Rattle.model_world.proofs.Standing.{step_waits}
use Rattle.model_world.proofs.Steps.{begun_marked, next_marked, opened_linked, step_known, step_linked}
use Rattle.model_world.proofs.Waking.{all_wait, waits_each}
use Rattle.r9_desktop.specs.Marks.{Display, IsMarked}
use Rattle.r9_desktop.specs.World.{desktop_of}
use Rattle.r9_hall.specs.hall.Settling.{WaitsAt}
use Rattle.r9_hall.specs.hall.StateView.{IsTurn, world_with}
use Rattle.r9_hall.specs.declared.hall.sessions.Sessions.{Sessions}

-- the first world
pub first_linked : (opening : Opening) (sessions : Sessions) → world_with opening sessions ≡ opened opening → AreLinked (desktop_of sessions.desktop).device sessions.live.entries
first_linked opening sessions is = subst (λ (w : World). AreLinked w.desktop.device w.sessions) (sym is) (opened_linked opening)

pub first_known : (opening : Opening) (sessions : Sessions) → world_with opening sessions ≡ opened opening → AreKnown 0 sessions.live.entries
first_known opening sessions is = subst (λ (w : World). AreKnown 0 w.sessions) (sym is) (λ c later. refl)

pub first_quiet : (opening : Opening) (sessions : Sessions) → world_with opening sessions ≡ opened opening → (c : ℕ) → WaitsAt sessions.live.entries (desktop_of sessions.desktop) c
first_quiet opening sessions is = subst (λ (w : World). (c : ℕ) → WaitsAt w.sessions w.desktop c) (sym is) (λ c session there. absurd (cc there))

-- ---- an event

pub turn_linked : (opening : Opening) (before after : Sessions) (begun : ℕ) (event : Event) (short : Option ℕ) (did : Did) → IsNext begun event
    → AreLinked (desktop_of before.desktop).device before.live.entries → AreKnown begun before.live.entries → IsTurn opening before (marked event short) did after
    → AreLinked (desktop_of after.desktop).device after.live.entries
turn_linked opening before after begun event short did next linked known turn =
    subst (λ (w : World). AreLinked w.desktop.device w.sessions) turn.world
    (step_linked (world_with opening before) begun (marked event short) (next_marked begun event short next) known linked)

pub turn_known : (opening : Opening) (before after : Sessions) (begun now : ℕ) (event : Event) (short : Option ℕ) (did : Did) → IsNext begun event
    → AreLinked (desktop_of before.desktop).device before.live.entries → AreKnown begun before.live.entries → now ≡ begun_after begun event → IsTurn opening before (marked event short) did after
    → AreKnown now after.live.entries
turn_known opening before after begun now event short did next linked known is turn =
    subst (λ (n : ℕ). AreKnown n after.live.entries) (begun_marked begun event short ∙ sym is)
    (subst (λ (w : World). AreKnown (begun_after begun (marked event short)) w.sessions) turn.world
    (step_known (world_with opening before) begun (marked event short) (next_marked begun event short next) linked.ascending known))

-- no read waits after it that can be answered
pub turn_quiet : (opening : Opening) (before after : Sessions) (event : Event) (did : Did) → AreLinked (desktop_of before.desktop).device before.live.entries
    → ((c : ℕ) → WaitsAt before.live.entries (desktop_of before.desktop) c) → IsTurn opening before event did after → (c : ℕ) → WaitsAt after.live.entries (desktop_of after.desktop) c
turn_quiet opening before after event did linked quiet turn c session =
    let world = world_with opening before in
    waits_each (world_with opening after) c session (subst (λ (w : World). AllWaitOn w) turn.world (step_waits world event linked.ascending (all_wait world linked.ascending quiet)))

pub turn_begun : (begun now : ℕ) (event : Event) (short : Option ℕ) → now ≡ begun_after begun event → now ≡ begun_after begun (marked event short)
turn_begun begun now event short is = is ∙ sym (begun_marked begun event short)

-- ---- the marks

-- the pixels that were written are those that were counted
pub marks_counted : (first last : Display) (pixels before after : ℕ) → after ≡ before + pixels → (first.nowhere ≡ true → IsMarked first last pixels) → first.nowhere ≡ true
    → IsMarked first last (after - before)
marks_counted first last pixels before after counted is nowhere =
    let same : pixels ≡ after - before = omega (arith, counted) in
    subst (λ (n : ℕ). IsMarked first last n) same (is nowhere)

-- where nothing happened none is marked
pub marks_same : (d : Display) (pixels : ℕ) → IsMarked d d pixels
marks_same d pixels = record {
  changed = λ column row _ _ _ _ _. refl;
  kept = λ column row _ _ is. is;
  few = omega arith;
}
