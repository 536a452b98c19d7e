-- Each desktop that a history leads to is drawn.
use Rattle.std.proofs.Common.{◌≡◌, ℕ, zero, suc, ◌<◌, List, [], ◌∷◌, Option, Some, None, Ok, refl, sym, subst, ◌∙◌, arith}
use Rattle.r9_event.specs.declared.event.event.Event.{Event}
use Rattle.r9_event.specs.declared.event.event.Event.TheVariants.{Begin, Msg, Take, End, Stop}
use Rattle.r9_event.specs.declared.event.event.Opening.{Opening}
use Rattle.model_text.specs.text.Map.{lookup, without}
use Rattle.model_text.proofs.map.Maps.{and-others, with-others, without-others}
use Rattle.model_text.proofs.map.Ascending.{ascend-with, ascend-without}
use Rattle.model_history.specs.event.Legal.{AllowedFrom, AllowedTo, IsLegal, Roll, no_sessions, roll_after}
use Rattle.model_rio.specs.rio.Act.{Act}
use Rattle.model_rio.specs.rio.Rio.{rio}
use Rattle.model_rio.specs.rio.Step.{Step}
use Rattle.model_rio.proofs.rio.Soundness.{opened_sound}
use Rattle.model_world.specs.Session.{Session, fresh}
use Rattle.model_world.specs.Desktop.{Desktop}
use Rattle.model_world.specs.Whole.{desktop_for}
use Rattle.model_world.specs.World.{World, display_of, opened}
use Rattle.model_world.specs.Fids.{Left, cleared}
use Rattle.model_world.specs.Answer.{answer}
use Rattle.model_world.specs.Replay.{ended, first_answered, replay, served, settled_within, step, waiting_in, with_left, world_from}
use Rattle.model_world.specs.Standing.{AreInOrder}
use Rattle.model_world.proofs.Settling.{IfNext, all_in, first_leaves, settled_keeps}
use Rattle.model_world.proofs.Standing.{step_order}
use Rattle.law_others.proofs.others.Display.{first_furnished}
use Rattle.law_shown.specs.fitting.Fitting.{AllFit, IsSpelled}
use Rattle.law_others.specs.orders.Leading.{IsDrawn}
use Rattle.law_others.specs.orders.Leading.{Leads}
use Rattle.law_others.proofs.orders.Furnished.{finds_display}
use Rattle.law_others.proofs.orders.Leading.{IsLed, Keeps, led_beside, led_itself, led_keeps}
use Rattle.law_shown.proofs.fitting.Acts.{act_fits}
use Rattle.law_shown.proofs.fitting.Opening.{first_orderly, first_shows}
use Rattle.law_others.proofs.orders.Answers.{answer_drawn, cleared_drawn, one_drawn}

-- so much is so of its desktop, and its sessions are numbered from 1
pub record IsServed (Led : Desktop → Type 0) (world : World) : Type 0 where
  pub led : Led world.desktop
  pub order : AreInOrder world
  pub begun : lookup world.sessions 0 ≡ None

-- a session that lives has not number 0
above : (sessions : List (ℕ × Session)) (c : ℕ) (session : Session) → lookup sessions 0 ≡ None → lookup sessions c ≡ Some session → 0 < c
above sessions zero session none at = absurd (let two : ◌≡◌ {A = Option Session} None (Some session) = sym none ∙ at in cc)
above sessions (suc c) session none at = omega arith

-- the world after a message, and after the end of a session, before the turn ends
abbrev pub heard_in : World → (c : ℕ) → List ℕ → Option ℕ → Session → World
heard_in world c bytes mark session = with_left world c (answer (desktop_for c) session world.desktop bytes mark)

abbrev pub ended_in : World → (c : ℕ) → Session → World
ended_in world c session = record world { desktop = (cleared (desktop_for c) session world.desktop).1; sessions = without world.sessions c }

-- and when all reads were answered that can be
abbrev pub settled_in : World → World
settled_in world = (settled_within (waiting_in world) world).0

module _ (Led : Desktop → Type 0) (keep : Keeps Led) where
  left_served : (world : World) (c : ℕ) (session : Session) (left : Left Desktop) → IsServed Led world → lookup world.sessions c ≡ Some session → Led left.rest → IsServed Led (with_left world c left)
  left_served world c session left is at led =
      let begun = above world.sessions c session is.begun at in
      record {
        led = led;
        order = ascend-with world.sessions c left.session is.order;
        begun = with-others world.sessions c 0 left.session (λ same. omega (arith, begun, same)) ∙ is.begun;
      }

  late_served : (world : World) → IsServed Led world → IfNext (IsServed Led) (first_answered world world.sessions)
  late_served world is =
      first_leaves (IsServed Led) world world.sessions (all_in world.sessions is.order) (λ c session after at answered. left_served world c session after is at (one_drawn Led keep c session world.desktop after is.led answered))

  settled_served : (world : World) → IsServed Led world → IsServed Led (settled_in world)
  settled_served world is = settled_keeps (IsServed Led) late_served (waiting_in world) world is

  pub heard_served : (world : World) (c : ℕ) (bytes : List ℕ) (mark : Option ℕ) (session : Session) → IsServed Led world → lookup world.sessions c ≡ Some session → IsServed Led (settled_in (heard_in world c bytes mark session))
  heard_served world c bytes mark session is at =
      let led = answer_drawn Led keep c session world.desktop bytes mark (above world.sessions c session is.begun at) is.led in
      settled_served (heard_in world c bytes mark session) (left_served world c session (answer (desktop_for c) session world.desktop bytes mark) is at led)

  pub ended_served : (world : World) (c : ℕ) (session : Session) → IsServed Led world → lookup world.sessions c ≡ Some session → IsServed Led (settled_in (ended_in world c session))
  ended_served world c session is at =
      let begun = above world.sessions c session is.begun at in
      settled_served (ended_in world c session) (record {
        led = cleared_drawn Led keep c session world.desktop begun is.led;
        order = ascend-without world.sessions c is.order;
        begun = without-others world.sessions c 0 (λ same. omega (arith, begun, same)) ∙ is.begun;
      })

module _ (start : Desktop) where
  abbrev Served : World → Type 0
  Served = IsServed (IsLed start)

  turned_served : (world after : World) → Served after → world ≡ record after { desktop = record after.desktop { notes = []; cost = 0 } } → Served world
  turned_served world after is same = subst Served (sym same) (record { led = led_beside start after.desktop (record after.desktop { notes = []; cost = 0 }) refl refl is.led; order = is.order; begun = is.begun })

  message_served : (world : World) (c : ℕ) (bytes : List ℕ) (mark : Option ℕ) (found : Option Session) → Served world → lookup world.sessions c ≡ found → Served (served world c bytes mark found).world
  message_served world c bytes mark None is at = turned_served (served world c bytes mark None).world world is refl
  message_served world c bytes mark (Some session) is at =
      turned_served (served world c bytes mark (Some session)).world (settled_in (heard_in world c bytes mark session)) (heard_served (IsLed start) (led_keeps start) world c bytes mark session is at) refl

  end_served : (world : World) (c : ℕ) (found : Option Session) → Served world → lookup world.sessions c ≡ found → Served (ended world c found).world
  end_served world c None is at = turned_served (ended world c None).world world is refl
  end_served world c (Some session) is at =
      turned_served (ended world c (Some session)).world (settled_in (ended_in world c session)) (ended_served (IsLed start) (led_keeps start) world c session is at) refl

  step_served : (roll : Roll) (world : World) (event : Event) → AllowedTo roll event → Served world → Served (step world event).world
  step_served roll world (Begin c) allowed is = record {
    led = led_beside start world.desktop (step world (Begin c)).world.desktop refl refl is.led;
    order = step_order world (Begin c) is.order;
    begun = (let next = allowed.0 in and-others world.sessions c 0 fresh (λ same. omega (arith, next, same)) ∙ is.begun);
  }
  step_served roll world (Msg c bytes mark) allowed is = message_served world c bytes mark (lookup world.sessions c) is refl
  step_served roll world (Take c) allowed is = turned_served (step world (Take c)).world world is refl
  step_served roll world (End c) allowed is = end_served world c (lookup world.sessions c) is refl
  step_served roll world Stop allowed is = turned_served (step world Stop).world world is refl

  world_served : (roll : Roll) (world : World) (events : List Event) → AllowedFrom roll events → Served world → Served (world_from world events)
  world_served roll world [] allowed is = is
  world_served roll world (event ∷ events) allowed is = world_served (roll_after roll event) (step world event).world events allowed.1 (step_served roll world event allowed.0.1 is)

opened_served : (opening : Opening) → IsServed (IsLed (opened opening).desktop) (opened opening)
opened_served opening = record {
  led = led_itself (opened opening).desktop (record { sound = opened_sound (display_of opening).r; orderly = first_orderly (display_of opening); furnished = first_furnished (display_of opening) refl; shows = first_shows (display_of opening) });
  order = tt;
  begun = refl;
}

pub history_served : (opening : Opening) (events : List Event) → IsLegal events → IsServed (IsLed (opened opening).desktop) (replay opening events)
history_served opening events legal = world_served (opened opening).desktop no_sessions (opened opening) events legal (opened_served opening)

history_led : (opening : Opening) (events : List Event) → IsLegal events → IsLed (opened opening).desktop (replay opening events).desktop
history_led opening events legal = (history_served opening events legal).led

pub history_drawn : (opening : Opening) (events : List Event) → IsLegal events → IsDrawn (replay opening events).desktop
history_drawn opening events legal = (history_led opening events legal).drawn

pub history_leads : (opening : Opening) (events : List Event) → IsLegal events → Leads (opened opening).desktop (replay opening events).desktop
history_leads opening events legal = (history_led opening events legal).leads

pub history_acts : (opening : Opening) (events : List Event) (a : Act) (out : Step) → IsLegal events → IsSpelled a → rio (replay opening events).desktop.table a ≡ Ok out → AllFit (replay opening events).desktop.device out.orders
history_acts opening events a out legal spelled e =
    let desktop = (replay opening events).desktop in
    let is = history_drawn opening events legal in
    (act_fits desktop.device desktop.table a out is.sound is.orderly is.shows spelled (finds_display desktop.device a is.furnished) e).all
