-- What a session is told in a legal history.
use Rattle.std.proofs.Common.{◌≡◌, ◌==◌, ℕ, Bool, true, false, not, List, [], ◌∷◌, All, Option, Some, None, Ok, refl, sym, subst}
use Rattle.std.specs.Prelude.{map}
use Rattle.std.specs.List.{fold}
use Rattle.std.proofs.lemmas.Bool.{cond_both}
use Rattle.std.proofs.lemmas.List.Elements.{All-append, All-cons, All-filter, All-head, All-map, All-nil, All-tail}
use Rattle.r9_event.specs.declared.event.event.Event.{Event}
use Rattle.r9_event.specs.declared.event.event.Event.TheVariants.{Begin, Msg, Take, End, Stop}
use Rattle.r9_event.specs.declared.event.event.Opening.{Opening}
use Rattle.r9_event.specs.declared.event.event.Reply.{Reply}
use Rattle.r9_event.specs.declared.event.own.Item.TheVariants.{Sent, Noted}
use Rattle.r9_event.specs.declared.event.own.Use.{Use}
use Rattle.r9_event.specs.declared.event.rio.Note.{Note}
use Rattle.model_text.specs.text.Map.{lookup, without}
use Rattle.model_history.specs.event.Legal.{AllowedFrom, AllowedTo, IsLegal, Roll, no_sessions, roll_after}
use Rattle.model_rio.specs.rio.Act.{Act}
use Rattle.model_rio.specs.rio.Rio.{rio}
use Rattle.model_rio.specs.rio.Step.{Step}
use Rattle.model_world.specs.Session.{Session}
use Rattle.model_world.specs.Desktop.{Desktop, stepped}
use Rattle.model_world.specs.Whole.{desktop_for}
use Rattle.model_world.specs.World.{World, opened}
use Rattle.model_world.specs.Fids.{Left, cleared}
use Rattle.model_world.specs.Waiting.{one_answered}
use Rattle.model_world.specs.Answer.{answer}
use Rattle.model_world.specs.Replay.{Turn, answered_in, ended, first_answered, served, settled_within, step, turned, waiting_in, with_left}
use Rattle.model_world.proofs.Settling.{IfNext, settled_keeps}
use Rattle.law_strangers.proofs.steady.Messages.{cleared_keeps, each_answer_keeps, one_keeps}
use Rattle.law_strangers.proofs.steady.Desktops.{DesktopKeeps, all_keep, attached_keeps, left_keeps}
use Rattle.model_alone.specs.alone.Own.{Judged, Watched, after_use, all_judged, effective, is_by, is_empty, is_its, judged, judged_by, judged_from, noted, own, sent, told, unseen}
use Rattle.law_strangers.specs.near.Steps.{IsSoundItem, IsSoundStep}
use Rattle.law_strangers.proofs.near.Acts.{IsNearTold, acts_tell_near}

-- ---- sessions

-- what the windows were told in the turn so far is near
abbrev IsNearSoFar : Desktop → Type 0
IsNearSoFar desktop = All IsNearTold desktop.notes

acts_near : (desktop : Desktop) (a : Act) (step : Step) → IsNearSoFar desktop → rio desktop.table a ≡ Ok step → IsNearSoFar (stepped desktop step)
unfolding stepped
acts_near desktop a step is e = All-append IsNearTold desktop.notes step.notes is (acts_tell_near desktop.table a step e)

keeps_near : (c : ℕ) → DesktopKeeps c IsNearSoFar
keeps_near c = record {
  acts = acts_near;
  beside = λ s next table users notes is. subst (All IsNearTold) (sym notes) is;
  leaves = left_keeps c IsNearSoFar acts_near (λ s window is. is);
}

answer_near : (c : ℕ) (session : Session) (desktop : Desktop) (bytes : List ℕ) (mark : Option ℕ) → IsNearSoFar desktop → IsNearSoFar (answer (desktop_for c) session desktop bytes mark).rest
answer_near c session desktop bytes mark is =
    each_answer_keeps (desktop_for c) IsNearSoFar (all_keep c IsNearSoFar (keeps_near c)) (attached_keeps c IsNearSoFar (keeps_near c) (λ s window near. near)) session desktop bytes mark is

cleared_near : (c : ℕ) (session : Session) (desktop : Desktop) → IsNearSoFar desktop → IsNearSoFar (cleared (desktop_for c) session desktop).1
cleared_near c session desktop is = cleared_keeps (desktop_for c) IsNearSoFar (all_keep c IsNearSoFar (keeps_near c)) session desktop is

one_near : (c : ℕ) (session : Session) (desktop : Desktop) (after : Left Desktop) → IsNearSoFar desktop → one_answered (desktop_for c) session desktop ≡ Some after → IsNearSoFar after.rest
one_near c session desktop after is e = one_keeps (desktop_for c) IsNearSoFar (all_keep c IsNearSoFar (keeps_near c)) session desktop after is e

-- ---- turns

abbrev IsNearWorld : World → Type 0
IsNearWorld world = IsNearSoFar world.desktop

first_near : (world : World) (sessions : List (ℕ × Session)) → IsNearWorld world → IfNext IsNearWorld (first_answered world sessions)
first_near world [] is = tt
first_near world ((c, session) ∷ more) is = by (first_near world more is) (one_answered (desktop_for c) session world.desktop) refl
  where
    by : IfNext IsNearWorld (first_answered world more) → (o : Option (Left Desktop)) → one_answered (desktop_for c) session world.desktop ≡ o → IfNext IsNearWorld (answered_in world c o (first_answered world more))
    by later None at = later
    by later (Some after) at = one_near c session world.desktop after is at

settled_near : (most : ℕ) (world : World) → IsNearWorld world → IsNearWorld (settled_within most world).0
settled_near most world is = settled_keeps IsNearWorld (λ next near. first_near next next.sessions near) most world is

-- what a turn told, and what it leaves
record IsNearTurn (turn : Turn) : Type 0 where
  told : All IsNearTold turn.notes
  left : IsNearWorld turn.world

turned_near : (world : World) (replies : List Reply) (closed : Option ℕ) → IsNearWorld world → IsNearTurn (turned world replies closed)
turned_near world replies closed is = record { told = is; left = All-nil IsNearTold }

served_near : (world : World) (c : ℕ) (bytes : List ℕ) (mark : Option ℕ) (found : Option Session) → IsNearWorld world → IsNearTurn (served world c bytes mark found)
served_near world c bytes mark None is = turned_near world [] None is
served_near world c bytes mark (Some session) is =
    let after = with_left world c (answer (desktop_for c) session world.desktop bytes mark) in
    turned_near (settled_within (waiting_in after) after).0 _ _ (settled_near (waiting_in after) after (answer_near c session world.desktop bytes mark is))

ended_near : (world : World) (c : ℕ) (found : Option Session) → IsNearWorld world → IsNearTurn (ended world c found)
ended_near world c None is = turned_near world [] None is
ended_near world c (Some session) is =
    let after : World = record world { desktop = (cleared (desktop_for c) session world.desktop).1; sessions = without world.sessions c } in
    turned_near (settled_within (waiting_in after) after).0 _ _ (settled_near (waiting_in after) after (cleared_near c session world.desktop is))

step_near : (world : World) (event : Event) → IsNearWorld world → IsNearTurn (step world event)
step_near world (Begin c) is = record { told = is; left = All-nil IsNearTold }
step_near world (Msg c bytes mark) is = served_near world c bytes mark (lookup world.sessions c) is
step_near world (Take c) is = turned_near world [] None is
step_near world (End c) is = ended_near world c (lookup world.sessions c) is
step_near world Stop is = turned_near world [] None is

-- ---- what the session is told

noted_sound : (seen : Watched) (notes : List (ℕ × Note)) → All IsNearTold notes → IsSoundStep (noted seen notes)
noted_sound seen [] near = All-nil IsSoundItem
noted_sound seen (told ∷ notes) near = by (is_its seen (Some told.0)) refl (noted_sound seen notes (All-tail IsNearTold told notes near))
  where
    by : (b : Bool) → is_its seen (Some told.0) ≡ b → IsSoundStep (noted seen notes) → IsSoundStep (noted seen (told ∷ notes))
    by true its rest = rw its (All-cons IsSoundItem (Noted told.1) (noted seen notes) (All-head IsNearTold told notes near) rest)
    by false its rest = rw its rest

sent_sound : (roll : Roll) (c : ℕ) (replies : List Reply) (event : Event) → AllowedTo roll event → IsSoundStep (sent c replies event)
sent_sound roll c replies (Msg d bytes mark) allowed =
    cond_both (d == c) (Sent bytes (effective bytes mark replies) ∷ []) [] IsSoundStep
    (λ _. All-cons IsSoundItem (Sent bytes (effective bytes mark replies)) [] allowed.1.long (All-nil IsSoundItem)) (λ _. All-nil IsSoundItem)
sent_sound roll c replies _ allowed = All-nil IsSoundItem

told_sound : (roll : Roll) (c : ℕ) (seen : Watched) (replies : List Reply) (notes : List (ℕ × Note)) (event : Event) → AllowedTo roll event → All IsNearTold notes → IsSoundStep (told c seen replies notes event)
told_sound roll c seen replies notes (End d) allowed near = cond_both (d == c) [] (noted seen notes) IsSoundStep (λ _. All-nil IsSoundItem) (λ _. noted_sound seen notes near)
told_sound roll c seen replies notes (Msg d bytes mark) allowed near =
    All-append IsSoundItem (sent c replies (Msg d bytes mark)) (noted seen notes) (sent_sound roll c replies (Msg d bytes mark) allowed) (noted_sound seen notes near)
told_sound roll c seen replies notes _ allowed near = noted_sound seen notes near

judged_sound : (roll : Roll) (c : ℕ) (seen : Watched) (used : List Use) (notes : List (ℕ × Note)) (replies : List Reply) (event : Event) → AllowedTo roll event → All IsNearTold notes
    → IsSoundStep (judged_by c seen used notes replies event).items
unfolding judged_by
judged_sound roll c seen used notes replies event allowed near = told_sound roll c (fold (after_use (is_by c event)) seen used) replies notes event allowed near

-- ---- histories

all_sound : (roll : Roll) (c : ℕ) (world : World) (seen : Watched) (events : List Event) → AllowedFrom roll events → IsNearWorld world → All (λ j. IsSoundStep j.items) (judged_from c world seen events)
all_sound roll c world seen [] allowed is = All-nil (λ (j : Judged). IsSoundStep j.items)
all_sound roll c world seen (event ∷ events) allowed is =
    let near = step_near world event is in
    let now = judged c world seen event in
    All-cons (λ (j : Judged). IsSoundStep j.items) now (judged_from c (step world event).world now.seen events)
    (judged_sound roll c seen _ (step world event).notes (step world event).replies event allowed.0.1 near.told)
    (all_sound (roll_after roll event) c (step world event).world now.seen events allowed.1 near.left)

pub own_sound : (opening : Opening) (c : ℕ) (events : List Event) → IsLegal events → All IsSoundStep (own opening c events)
own_sound opening c events legal =
    All-filter (λ items. not (is_empty items)) IsSoundStep (map (λ j. j.items) (all_judged opening c events))
    (All-map IsSoundStep (λ (j : Judged). j.items) (all_judged opening c events) (all_sound no_sessions c (opened opening) unseen events legal (All-nil IsNearTold)))
