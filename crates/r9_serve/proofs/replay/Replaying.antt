-- A history that is run event by event.
use Rattle.std.proofs.Common.{◌≡◌, ℕ, ◌+◌, List, ◌∷◌, ◌++◌, length, sym, ap, subst, ◌∙◌, append_assoc, arith}
use Rattle.std.proofs.lemmas.List.{length-append}
use Rattle.r9_event.specs.declared.event.event.Event.{Event}
use Rattle.r9_event.specs.declared.event.event.Event.TheVariants.{Begin, Msg, Take, End, Stop}
use Rattle.model_history.specs.event.Legal.{Roll, Allowed, AllowedFrom, IsLegal, no_sessions, roll_after}
use Rattle.r9_event.specs.declared.event.event.Reply.{Reply}
use Rattle.model_world.specs.World.{World}
use Rattle.model_world.specs.Replay.{step, replies_from, world_from}
use Rattle.r9_hall.specs.hall.StateView.{IsWhole}
use Rattle.r9_hall.specs.hall.WorldView.{IsFirst, IsStepped, WorldValue}
use Rattle.model_world.specs.Links.{IsNext, begun_after}
use Rattle.model_world.proofs.Steps.{begun_rolled, next_of}
use Rattle.r9_event.specs.declared.event.event.Opening.{Opening}
use Rattle.r9_serve.specs.replay.Replayed.{MayRun}

-- ---- the messages of a record are whole

whole_event : (roll : Roll) (event : Event) → Allowed roll event → IsWhole event
whole_event roll (Begin c) allowed = tt
whole_event roll (Msg c bytes mark) allowed = allowed.1.1.long
whole_event roll (Take c) allowed = tt
whole_event roll (End c) allowed = tt
whole_event roll Stop allowed = tt

-- ---- one event more

pub may_start : (opening : Opening) (w : WorldValue) (events : List Event) → IsFirst opening w → IsLegal events → MayRun w events
may_start opening w events first legal = record { roll = no_sessions; legal = legal; begun = first.begun; going = first.going }

pub first_whole : (w : WorldValue) (events rest : List Event) (event : Event) → events ≡ event ∷ rest → MayRun w events → IsWhole event
first_whole w events rest event is may =
    whole_event may.roll event (let legal : AllowedFrom may.roll (event ∷ rest) = subst (λ (es : List Event). AllowedFrom may.roll es) is may.legal in legal.0)

pub first_next : (w : WorldValue) (events rest : List Event) (event : Event) → events ≡ event ∷ rest → MayRun w events → IsNext w.begun event
first_next w events rest event is may =
    let legal : AllowedFrom may.roll (event ∷ rest) = subst (λ (es : List Event). AllowedFrom may.roll es) is may.legal in
    subst (λ (begun : ℕ). IsNext begun event) (sym may.begun) (next_of may.roll event legal.0.1)

pub goes_on : (w next : WorldValue) (events rest : List Event) (event : Event) → events ≡ event ∷ rest → IsStepped w event next → MayRun w events → MayRun next rest
goes_on w next events rest event is goes may =
    let legal : AllowedFrom may.roll (event ∷ rest) = subst (λ (es : List Event). AllowedFrom may.roll es) is may.legal in
    record {
      roll = roll_after may.roll event;
      legal = legal.1;
      begun = goes.begun ∙ ap (λ (begun : ℕ). begun_after begun event) may.begun ∙ sym (begun_rolled may.roll event);
      going = goes.going;
    }

pub replies_after : (world next : World) (events rest : List Event) (event : Event) (log more total : List Reply)
    → events ≡ event ∷ rest → next ≡ (step world event).world → more ≡ log ++ (step world event).replies
    → log ++ replies_from world events ≡ total → more ++ replies_from next rest ≡ total
replies_after world next events rest event log more total is goes kept so_far =
    let others = replies_from (step world event).world rest in
    let now : more ++ replies_from next rest ≡ (log ++ (step world event).replies) ++ others =
    ap (λ (w : World). more ++ replies_from w rest) goes ∙ ap (λ (m : List Reply). m ++ others) kept in
    now ∙ append_assoc log (step world event).replies others ∙ ap (λ (es : List Event). log ++ replies_from world es) (sym is) ∙ so_far

pub world_after : (world next : World) (events rest : List Event) (event : Event) (total : World)
    → events ≡ event ∷ rest → next ≡ (step world event).world → world_from world events ≡ total → world_from next rest ≡ total
world_after world next events rest event total is goes so_far =
    ap (λ (w : World). world_from w rest) goes ∙ ap (λ (es : List Event). world_from world es) (sym is) ∙ so_far

-- so many replies were given, and those to the events that are left make the whole
pub count_after : (world next : World) (events rest : List Event) (event : Event) (n more total given : ℕ)
    → events ≡ event ∷ rest → next ≡ (step world event).world → given ≡ length (step world event).replies → more ≡ n + given
    → n + length (replies_from world events) ≡ total → more + length (replies_from next rest) ≡ total
count_after world next events rest event n more total given is goes are counted so_far =
    let here = ap (λ (es : List Event). length (replies_from world es)) is
    ∙ length-append (step world event).replies (replies_from (step world event).world rest) in
    let there = ap (λ (w : World). length (replies_from w rest)) goes in
    omega (arith, here, there, are, counted, so_far)
