-- Session 0 never begins, and so is isolated.
use Rattle.std.proofs.Common.{◌≡◌, ◌∙◌, ℕ, false, List, [], Option, Some, None, refl, sym, ap, subst, arith}
use Rattle.r9_event.specs.declared.event.event.Event.{Event}
use Rattle.r9_event.specs.declared.event.event.Event.TheVariants.{Begin, Msg, Take, End, Stop}
use Rattle.r9_event.specs.declared.event.event.Opening.{Opening}
use Rattle.r9_event.specs.declared.event.own.Item.{Item}
use Rattle.model_text.proofs.map.Keys.{not_key}
use Rattle.model_history.specs.event.Legal.{Allowed, Roll}
use Rattle.model_world.specs.World.{World}
use Rattle.model_world.specs.Replay.{step}
use Rattle.model_world.proofs.Steps.{begun_rolled, next_of}
use Rattle.model_alone.specs.alone.Isolated.{IsIsolated}
use Rattle.model_alone.specs.alone.Own.{Watched, is_by, judged, noted}
use Rattle.model_alone.specs.alone.Lone.{LoneWorld}
use Rattle.model_alone.proofs.alone.Histories.{IsFollowed, isolated_by, lone_after}
use Rattle.law_strangers.proofs.users.Worlds.{IsServed, opened_served, step_served}
use Rattle.law_isolation.proofs.phases.Absent.{AreCounted, IsAbsent, absent_step, counted_after, judged_others, live_first, noted_none}

record Holds (roll : Roll) (world : World) (lone : LoneWorld) (seen : Watched) : Type 0 where
  served : IsServed roll.begun world
  counted : AreCounted roll
  unseen_so : seen.window ≡ None

-- no event is its own
another : (roll : Roll) (event : Event) → AreCounted roll → Allowed roll event → is_by 0 event ≡ false
another roll (Begin d) counted allowed = not_key d 0 (λ same. (let next = allowed.1.0 in omega (arith, same, next)))
another roll (Msg d bytes mark) counted allowed = not_key d 0 (λ same. (let first = live_first roll counted d allowed.1.0 in omega (arith, same, first)))
another roll (Take d) counted allowed = not_key d 0 (λ same. (let first = allowed.1.0 in omega (arith, same, first)))
another roll (End d) counted allowed = not_key d 0 (λ same. (let first = live_first roll counted d allowed.1 in omega (arith, same, first)))
another roll Stop counted allowed = refl

follows : (roll : Roll) (world : World) (lone : LoneWorld) (seen : Watched) (event : Event) → Holds roll world lone seen → Allowed roll event → (judged 0 world seen event).reasons ≡ [] → IsFollowed 0 Holds roll world lone seen event
follows roll world lone seen event is allowed fine = record {
  replies = absent.replies ∙ sym (ap (λ (its : List Item). (lone_after lone its).1) none);
  rest = record {
    served = subst (λ (n : ℕ). IsServed n (step world event).world) (sym (begun_rolled roll event)) (step_served world roll.begun event (next_of roll event allowed.1) is.served);
    counted = counted_after roll event allowed.1 is.counted;
    unseen_so = ap (λ (w : Watched). w.window) shown.1 ∙ is.unseen_so;
  };
}
  where
    other : is_by 0 event ≡ false
    other = another roll event is.counted allowed

    absent : IsAbsent 0 world event
    absent = absent_step 0 world event other is.served.well.order is.served.well.begun

    shown : ((judged 0 world seen event).items ≡ noted seen (step world event).notes) × ((judged 0 world seen event).seen ≡ seen)
    shown = judged_others 0 world seen event other

    none : (judged 0 world seen event).items ≡ []
    none = shown.0 ∙ noted_none seen (step world event).notes (λ window its. absurd (let two : ◌≡◌ {A = Option ℕ} None (Some window) = sym is.unseen_so ∙ its in cc))

pub none_isolated : (opening : Opening) (events : List Event) → IsIsolated opening events 0
none_isolated opening events = isolated_by 0 Holds follows opening (record { served = opened_served opening; counted = tt; unseen_so = refl }) events
