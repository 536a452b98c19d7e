-- A hall and one event more.
use Rattle.std.proofs.Common.{◌≡◌, ◌+◌, ◌-◌, ℕ, Bool, true, false, List, [], ◌∷◌, ◌++◌, Option, Some, None, length, drop, refl, sym, ap, subst, ◌∙◌, append-nil, arith, length-append, length-drop}
use Rattle.std.proofs.lemmas.List.{map-append, drop-append-le}
use Rattle.r9_event.specs.declared.event.event.Event.{Event}
use Rattle.r9_event.specs.declared.event.event.Event.TheVariants.{Begin, Msg, Take, End, Stop}
use Rattle.r9_event.specs.declared.event.event.Entry.{Entry}
use Rattle.r9_event.specs.declared.event.event.Opening.{Opening}
use Rattle.r9_event.specs.declared.event.event.Did.{Did}
use Rattle.model_history.specs.event.Legal.{Allowed, IsLegal, Roll, no_sessions, roll_after, roll_of}
use Rattle.model_history.proofs.event.Rolls.{AllowedFrom-push, roll_from-push}
use Rattle.model_history.specs.event.Journal.{events_of, AreNumbered}
use Rattle.model_world.specs.World.{World, opened}
use Rattle.model_text.specs.text.Map.{lookup}
use Rattle.model_world.specs.Session.{Session}
use Rattle.model_world.specs.Replay.{step, served, ended, outbox, replay, world_from, waiting_after}
use Rattle.model_world.proofs.Histories.{world_from-push, waiting_from-push}
use Rattle.model_served.specs.served.Served.{journal_of}
use Rattle.model_alone.specs.alone.Uses.{event_used}
use Rattle.r9_hall.specs.hall.Acts.{IsMadeOf}
use Rattle.r9_hall.specs.hall.HallView.{AllowedNext, HallValue, HasLed, OfHistories, StandsFor, StandsForMore, StandsOn}
use Rattle.r9_hall.specs.hall.Outboxes.{waiting}
use Rattle.model_world.specs.Links.{begun_after}
use Rattle.r9_hall.specs.hall.WorldView.{IsFirst, WorldValue, world_in}

pub events_of-push : (entries : List Entry) (entry : Entry) → events_of (entries ++ entry ∷ []) ≡ events_of entries ++ entry.event ∷ []
events_of-push entries entry = map-append (λ (e : Entry). e.event) entries (entry ∷ [])

AreNumbered-push : (first : ℕ) (entries : List Entry) (entry : Entry) → AreNumbered first entries → entry.number ≡ first + length entries → AreNumbered first (entries ++ entry ∷ [])
AreNumbered-push first [] entry numbered next = (omega (arith, next), tt)
AreNumbered-push first (e ∷ entries) entry numbered next = (numbered.0, AreNumbered-push (first + 1) entries entry numbered.1 (omega (arith, next)))

pub roll_next : (history : List Entry) (entry : Entry) → roll_of (events_of (history ++ entry ∷ [])) ≡ roll_after (roll_of (events_of history)) entry.event
roll_next history entry = ap (λ (es : List Event). roll_of es) (events_of-push history entry) ∙ roll_from-push no_sessions (events_of history) entry.event

-- ---- nothing has happened

pub stands_first : (opening : Opening) (h : HallValue) → h.opening ≡ opening → h.first ≡ 1 → h.stored ≡ [] → h.roll ≡ no_sessions → IsFirst opening h.world → ((c : ℕ) → waiting h.outboxes c ≡ []) → StandsFor h []
stands_first opening h opened_as first stored roll world outboxes = record {
  numbered = tt;
  legal = tt;
  from = omega (arith, first);
  to = omega (arith, first);
  stored = stored ∙ (λ i. drop (sym first i - 1) []);
  roll = roll;
  led = λ _. record {
    world = world.world ∙ (λ i. opened (sym opened_as i));
    outboxes = outboxes;
  };
}

-- ---- one event more in the history that a hall stands for

-- as many sessions have begun in the world as the roll says
pub begun_more : (begun : ℕ) (roll : Roll) (event : Event) → begun ≡ roll.begun → begun_after begun event ≡ (roll_after roll event).begun
begun_more begun roll (Begin c) is = refl
begun_more begun roll (Msg c bytes mark) is = is
begun_more begun roll (Take c) is = is
begun_more begun roll (End c) is = is
begun_more begun roll Stop is = is

-- nothing of a turn is still to be told
abbrev pub IsTold : World → Type 0
IsTold world = (world.desktop.notes ≡ []) × (world.desktop.cost ≡ 0)

-- The event is one entry more, and its step of the world was made.
pub record HasTurned (h : HallValue) (event : Event) (after : HallValue) : Type 0 where
  pub opening : after.opening ≡ h.opening
  pub first : after.first ≡ h.first
  pub stored : after.stored ≡ h.stored ++ record { number = h.first + length h.stored; event = event } ∷ []
  pub roll : after.roll ≡ roll_after h.roll event
  pub allowed : Allowed h.roll event
  pub whole : after.broken ≡ false → h.broken ≡ false
  pub world : after.broken ≡ false → IsTold (world_in h.world) → world_in after.world ≡ (step (world_in h.world) event).world
  pub outboxes : after.broken ≡ false → (c : ℕ) → waiting after.outboxes c ≡ waiting_after c (waiting h.outboxes c) event (step (world_in h.world) event).replies

-- ---- what was told in a turn is told

served_told : (world : World) (c : ℕ) (bytes : List ℕ) (mark : Option ℕ) (session : Option Session) → IsTold (served world c bytes mark session).world
served_told world c bytes mark None = (refl, refl)
served_told world c bytes mark (Some session) = (refl, refl)

ended_told : (world : World) (c : ℕ) (session : Option Session) → IsTold (ended world c session).world
ended_told world c None = (refl, refl)
ended_told world c (Some session) = (refl, refl)

step_told : (world : World) (event : Event) → IsTold (step world event).world
step_told world (Begin c) = (refl, refl)
step_told world (Msg c bytes mark) = served_told world c bytes mark (lookup world.sessions c)
step_told world (Take c) = (refl, refl)
step_told world (End c) = ended_told world c (lookup world.sessions c)
step_told world Stop = (refl, refl)

world_from_told : (world : World) (events : List Event) → IsTold world → IsTold (world_from world events)
world_from_told world [] told = told
world_from_told world (e ∷ events) told = world_from_told (step world e).world events (step_told world e)

-- so a history ends with nothing that is still to be told
history_told : (opening : Opening) (events : List Event) → IsTold (replay opening events)
history_told opening events = world_from_told (opened opening) events (refl, refl)

-- ---- the hall stands for one entry more

entry_after : List Entry → Event → Entry
entry_after history event = record { number = length history + 1; event = event }

stored_more : (h : HallValue) (event : Event) (history : List Entry) → StandsFor h history
    → h.stored ++ record { number = h.first + length h.stored; event = event } ∷ [] ≡ drop (h.first - 1) (history ++ record { number = length history + 1; event = event } ∷ [])
stored_more h event history stands =
    let entry : ℕ → Entry = λ n. record { number = n; event = event } in
    let number : h.first + length h.stored ≡ length history + 1 = omega (arith, stands.from, stands.to, ap length stands.stored, length-drop (h.first - 1) history) in
    (λ i. stands.stored i ++ entry (number i) ∷ []) ∙ sym (drop-append-le (h.first - 1) history (entry (length history + 1) ∷ []) (omega (arith, stands.from, stands.to)))

led_more : (h after : HallValue) (event : Event) (history : List Entry) (entry : Entry) → HasTurned h event after → HasLed h (events_of history) → entry.event ≡ event → after.broken ≡ false
    → HasLed after (events_of (history ++ entry ∷ []))
led_more h after event history entry turned led is whole =
    let es = events_of history in
    let pushed : es ++ event ∷ [] ≡ events_of (history ++ entry ∷ []) = ap (λ (e : Event). es ++ e ∷ []) (sym is) ∙ sym (events_of-push history entry) in
    let told : IsTold (world_in h.world) = subst (λ (w : World). IsTold w) (sym led.world) (history_told h.opening es) in
    record {
      world = turned.world whole told ∙ ap (λ (w : World). (step w event).world) led.world ∙ sym (world_from-push (opened h.opening) es event) ∙ (λ i. replay (sym turned.opening i) (pushed i));
      outboxes = λ c. turned.outboxes whole c
          ∙ ap (λ (x : List ℕ). waiting_after c x event (step (world_in h.world) event).replies) (led.outboxes c)
          ∙ ap (λ (w : World). waiting_after c (outbox (journal_of h.opening es) c) event (step w event).replies) led.world
          ∙ sym (waiting_from-push (opened h.opening) es event c [])
          ∙ (λ i. outbox (journal_of (sym turned.opening i) (pushed i)) c);
    }

pub stands_more : (h after : HallValue) (event : Event) → HasTurned h event after → StandsForMore h event after
stands_more h after event turned history stands =
    let entry : Entry = record { number = length history + 1; event = event } in
    let legal : IsLegal (events_of history ++ event ∷ []) =
    AllowedFrom-push no_sessions (events_of history) event stands.legal (subst (λ (r : Roll). Allowed r event) stands.roll turned.allowed) in
    record {
      numbered = AreNumbered-push 1 history entry stands.numbered (omega arith);
      legal = subst (λ (es : List Event). IsLegal es) (sym (events_of-push history entry)) legal;
      from = omega (arith, turned.first, stands.from);
      to = omega (arith, turned.first, stands.to, length-append history (entry ∷ []));
      stored = turned.stored ∙ stored_more h event history stands ∙ ap (λ (n : ℕ). drop (n - 1) (history ++ entry ∷ [])) (sym turned.first);
      roll = turned.roll ∙ ap (λ (r : Roll). roll_after r event) stands.roll ∙ sym (roll_next history entry);
      led = λ whole. led_more h after event history entry turned (stands.led (turned.whole whole)) refl whole;
    }

-- ---- what the history led to stays

pub stands_same : (h : HallValue) (opening : Opening) (world : WorldValue) → opening ≡ h.opening → world_in world ≡ world_in h.world → StandsOn h (record h { opening = opening; world = world })
stands_same h opening world same led history stands = record {
  numbered = stands.numbered;
  legal = stands.legal;
  from = stands.from;
  to = stands.to;
  stored = stands.stored;
  roll = stands.roll;
  led = λ whole. record {
    world = led ∙ (stands.led whole).world ∙ ap (λ (o : Opening). replay o (events_of history)) (sym same);
    outboxes = λ c. (stands.led whole).outboxes c ∙ ap (λ (o : Opening). outbox (journal_of o (events_of history)) c) (sym same);
  };
}

-- ---- what an event gives

-- what is so of the hall's world is so of each history's
pub of_histories : (h : HallValue) (P : World → Type 0) → P (world_in h.world) → OfHistories h (λ events. P (replay h.opening events))
of_histories h P holds whole history stands = subst P (stands.led whole).world holds

-- a Stop gives nothing
abbrev pub nothing_done : Did
nothing_done = record { replies = []; notes = []; uses = []; short = None; closed = None }

silent_same : (world : World) → IsTold world → world ≡ (step world Stop).world
silent_same world told = λ i. record { opening = world.opening; desktop = record world.desktop { notes = told.0 i; cost = told.1 i }; sessions = world.sessions }

stop_turned : (h after : HallValue) → AllowedNext h Stop → after.opening ≡ h.opening → after.first ≡ h.first → after.stored ≡ h.stored ++ record { number = h.first + length h.stored; event = Stop } ∷ []
    → after.roll ≡ roll_after h.roll Stop → after.broken ≡ h.broken → after.world ≡ h.world → after.outboxes ≡ h.outboxes → HasTurned h Stop after
stop_turned h after allowed opening first stored roll broken world outboxes = record {
  opening = opening;
  first = first;
  stored = stored;
  roll = roll;
  allowed = allowed.0;
  whole = λ now. sym broken ∙ now;
  world = λ now told. ap (λ (w : WorldValue). world_in w) world ∙ silent_same (world_in h.world) told;
  outboxes = λ now c. ap (λ (o : List (ℕ × List ℕ)). waiting o c) outboxes ∙ sym (append-nil (waiting h.outboxes c));
}

pub stop_made : (h after : HallValue) (event : Event) (did : Did) → event ≡ Stop → did ≡ nothing_done → AllowedNext h event → after.opening ≡ h.opening → after.first ≡ h.first
    → after.stored ≡ h.stored ++ record { number = h.first + length h.stored; event = event } ∷ [] → after.roll ≡ roll_after h.roll event → after.broken ≡ h.broken → after.world ≡ h.world
    → after.outboxes ≡ h.outboxes → IsMadeOf h event did after
unfolding event_used
stop_made h after event did is none allowed opening first stored roll broken world outboxes =
    let next : AllowedNext h Stop = subst (λ (e : Event). AllowedNext h e) is allowed in
    let turned : HasTurned h Stop after = stop_turned h after next opening first (stored ∙ ap (λ (e : Event). h.stored ++ record { number = h.first + length h.stored; event = e } ∷ []) is)
    (roll ∙ ap (λ (e : Event). roll_after h.roll e) is) broken world outboxes in
    subst (λ (e : Event). IsMadeOf h e did after) (sym is) (subst (λ (d : Did). IsMadeOf h Stop d after) (sym none) (record {
      entered = stands_more h after Stop turned;
      allowed = next;
      replies = λ whole history stands. refl;
      notes = λ whole history stands. sym (history_told h.opening (events_of history)).0;
      uses = λ watches whole history stands. refl;
      closed = λ whole history stands. refl;
      short = λ whole history stands. tt;
      told = λ whole history stands wants. absurd wants;
    }))

pub not_broken : (broken : Bool) (event : Event) → (broken ≡ true → event ≡ Stop) → (event ≡ Stop → ⊥) → broken ≡ false
not_broken true event allowed other = absurd (other (allowed refl))
not_broken false event allowed other = refl

pub unbroken : (broken : Bool) {P : Type 0} → broken ≡ false → broken ≡ true → P
unbroken broken whole is = let two : false ≡ true = sym whole ∙ is in absurd (cc two)
