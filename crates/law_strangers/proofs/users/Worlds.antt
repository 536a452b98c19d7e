-- What each event keeps of a server.
use Rattle.std.proofs.Common.{◌≡◌, ◌∙◌, ℕ, zero, suc, eqb, ◌<◌, ◌≤◌, Bool, true, false, List, [], Option, Some, None, refl, sym, ap, subst, arith}
use Rattle.std.specs.Prelude.{All}
use Rattle.std.proofs.lemmas.Bool.{eqb-false, eqb-true}
use Rattle.std.proofs.lemmas.List.Elements.{All-nil, All-weaker}
use Rattle.r9_event.specs.declared.event.event.Event.{Event}
use Rattle.r9_event.specs.declared.event.event.Event.TheVariants.{Begin, Msg, Take, End, Stop}
use Rattle.r9_event.specs.declared.event.event.Opening.{Opening}
use Rattle.model_text.specs.text.Map.{and, lookup, with, without}
use Rattle.model_text.proofs.map.Ascending.{ascend-and, ascend-with, ascend-without, without-here}
use Rattle.model_text.proofs.map.Maps.{and-here, and-others, with-here, with-others, without-others}
use Rattle.model_rio.specs.rio.Table.{Table}
use Rattle.model_rio.proofs.rio.Soundness.{opened_sound}
use Rattle.law_others.proofs.others.Display.{first_furnished}
use Rattle.law_shown.proofs.fitting.Opening.{first_orderly, first_shows}
use Rattle.model_world.specs.Session.{Fid, Session, fresh}
use Rattle.model_world.specs.Desktop.{Desktop}
use Rattle.model_world.specs.Fids.{Left, cleared}
use Rattle.model_world.specs.Answer.{answer}
use Rattle.model_world.specs.Waiting.{one_answered}
use Rattle.model_world.specs.Whole.{desktop_for}
use Rattle.model_world.specs.World.{World, display_of, opened}
use Rattle.model_world.specs.Links.{AreKnown, AreLinked, IsNext, begun_after}
use Rattle.model_world.specs.Standing.{AllWaitOn, AreInOrder}
use Rattle.model_world.specs.Replay.{ended, first_answered, served, settled_within, step, waiting_in, with_left}
use Rattle.model_world.proofs.Settling.{IfNext, all_in, first_leaves, settled_keeps}
use Rattle.model_world.proofs.Standing.{history_waits, step_waits}
use Rattle.model_world.proofs.Steps.{opened_linked, step_known, step_linked}
use Rattle.law_others.specs.orders.Leading.{IsDrawn}
use Rattle.law_others.proofs.orders.Leading.{IsLed, led_beside, led_itself, led_keeps}
use Rattle.law_others.proofs.orders.Answers.{answer_drawn, cleared_drawn, one_drawn}
use Rattle.law_strangers.proofs.steady.Messages.{cleared_keeps, each_answer_keeps, one_keeps}
use Rattle.law_strangers.proofs.steady.Desktops.{all_keep}
use Rattle.law_strangers.proofs.unnoticed.Late.{one_same}
use Rattle.law_strangers.proofs.users.Users.{IsRegular, regular_all, regular_attached}
use Rattle.law_strangers.proofs.users.Bounds.{Counts, IsWithin, answer_within, counts_answer, counts_keep, one_such, within_more}

-- the fids of a session tell of windows that were made
abbrev pub TellsOfMade : Table → Session → Type 0
TellsOfMade table session = All (λ (entry : ℕ × Fid). IsWithin table.serials entry.1.node) session.fids

-- What a server keeps, but for what each turn settles.
pub record IsWell (world : World) : Type 0 where
  pub order : AreInOrder world
  pub begun : lookup world.sessions 0 ≡ None
  pub drawn : IsDrawn world.desktop
  pub regular : IsRegular world.desktop
  pub within : (d : ℕ) (session : Session) → lookup world.sessions d ≡ Some session → TellsOfMade world.desktop.table session

-- sessions are counted from 1
pub above : (sessions : List (ℕ × Session)) (d : ℕ) (session : Session) → lookup sessions 0 ≡ None → lookup sessions d ≡ Some session → 0 < d
above sessions zero session none at = absurd (let two : ◌≡◌ {A = Option Session} None (Some session) = sym none ∙ at in cc)
above sessions (suc d) session none at = omega arith

tells_more : (less more : Table) → less.serials ≤ more.serials → (session : Session) → TellsOfMade less session → TellsOfMade more session
tells_more less more few session all =
    All-weaker (λ (entry : ℕ × Fid). IsWithin less.serials entry.1.node) (λ (entry : ℕ × Fid). IsWithin more.serials entry.1.node) (λ entry is. within_more less.serials more.serials few entry.1.node is) session.fids all

-- a session leaves the server so
pub record LeavesWell (s : Desktop) (left : Left Desktop) : Type 0 where
  pub drawn : IsDrawn left.rest
  pub regular : IsRegular left.rest
  pub within : TellsOfMade left.rest.table left.session
  pub grown : s.table.serials ≤ left.rest.table.serials

pub left_well : (world : World) (d : ℕ) (session : Session) (left : Left Desktop) → IsWell world → lookup world.sessions d ≡ Some session → LeavesWell world.desktop left → IsWell (with_left world d left)
left_well world d session left is at leaves =
    let begun = above world.sessions d session is.begun at in
    record {
      order = ascend-with world.sessions d left.session is.order;
      begun = with-others world.sessions d 0 left.session (λ same. omega (arith, begun, same)) ∙ is.begun;
      drawn = leaves.drawn;
      regular = leaves.regular;
      within = λ e other there. by e other there (eqb e d) refl;
    }
  where
    by : (e : ℕ) (other : Session) → lookup (with world.sessions d left.session) e ≡ Some other → (b : Bool) → eqb e d ≡ b → TellsOfMade left.rest.table other
    by e other there true here =
        let same : e ≡ d = eqb-true e d here in
        let two : ◌≡◌ {A = Option Session} (Some left.session) (Some other) = sym (with-here world.sessions d session left.session at) ∙ ap (lookup (with world.sessions d left.session)) (sym same) ∙ there in
        let it : left.session ≡ other = cc in
        subst (TellsOfMade left.rest.table) it leaves.within
    by e other there false here = tells_more world.desktop.table left.rest.table leaves.grown other (is.within e other (sym (with-others world.sessions d e left.session (eqb-false e d here)) ∙ there))

-- ---- late answers

late_leaves : (d : ℕ) (session : Session) (s : Desktop) (after : Left Desktop) → IsDrawn s → IsRegular s → TellsOfMade s.table session → one_answered (desktop_for d) session s ≡ Some after → LeavesWell s after
late_leaves d session s after drawn regular within is =
    let same = (one_same d s session after is).table in
    record {
      drawn = (one_drawn (IsLed s) (led_keeps s) d session s after (led_itself s drawn) is).drawn;
      regular = one_keeps (desktop_for d) IsRegular (regular_all d) session s after regular is;
      within = subst (λ (t : Table). TellsOfMade t after.session) (sym same) (one_such (desktop_for d) (IsWithin s.table.serials) session s after within is);
      grown = subst (λ (t : Table). s.table.serials ≤ t.serials) (sym same) (omega arith);
    }

late_well : (world : World) → IsWell world → IfNext IsWell (first_answered world world.sessions)
late_well world is =
    first_leaves IsWell world world.sessions (all_in world.sessions is.order)
    (λ d session after at answered. left_well world d session after is at (late_leaves d session world.desktop after is.drawn is.regular (is.within d session at) answered))

pub settled_well : (most : ℕ) (world : World) → IsWell world → IsWell (settled_within most world).0
settled_well most world is = settled_keeps IsWell late_well most world is

-- ---- events

turned_well : (world after : World) → IsWell after → world ≡ record after { desktop = record after.desktop { notes = []; cost = 0 } } → IsWell world
turned_well world after is same = subst IsWell (sym same) (record {
  order = is.order;
  begun = is.begun;
  drawn = (led_beside after.desktop after.desktop (record after.desktop { notes = []; cost = 0 }) refl refl (led_itself after.desktop is.drawn)).drawn;
  regular = record { sound = is.regular.sound; unused = is.regular.unused };
  within = is.within;
})

pub answer_leaves : (d : ℕ) (session : Session) (s : Desktop) (bytes : List ℕ) (mark : Option ℕ) → 0 < d → IsDrawn s → IsRegular s → TellsOfMade s.table session → LeavesWell s (answer (desktop_for d) session s bytes mark)
answer_leaves d session s bytes mark begun drawn regular within = record {
  drawn = (answer_drawn (IsLed s) (led_keeps s) d session s bytes mark begun (led_itself s drawn)).drawn;
  regular = each_answer_keeps (desktop_for d) IsRegular (regular_all d) (regular_attached d) session s bytes mark regular;
  within = answer_within d s drawn.sound session bytes mark within;
  grown = counts_answer d s.table.serials session s bytes mark (omega arith);
}

served_well : (world : World) (d : ℕ) (bytes : List ℕ) (mark : Option ℕ) (found : Option Session) → IsWell world → lookup world.sessions d ≡ found → IsWell (served world d bytes mark found).world
served_well world d bytes mark None is at = turned_well (served world d bytes mark None).world world is refl
served_well world d bytes mark (Some session) is at =
    let left = answer (desktop_for d) session world.desktop bytes mark in
    let after = with_left world d left in
    let begun = above world.sessions d session is.begun at in
    let settled = settled_well (waiting_in after) after (left_well world d session left is at (answer_leaves d session world.desktop bytes mark begun is.drawn is.regular (is.within d session at))) in
    turned_well (served world d bytes mark (Some session)).world (settled_within (waiting_in after) after).0 settled refl

-- what is left when a session ends
pub gone_well : (world : World) (d : ℕ) (session : Session) → IsWell world → lookup world.sessions d ≡ Some session → IsWell (record world { desktop = (cleared (desktop_for d) session world.desktop).1; sessions = without world.sessions d })
gone_well world d session is at = record {
  order = ascend-without world.sessions d is.order;
  begun = without-others world.sessions d 0 (λ same. omega (arith, begun, same)) ∙ is.begun;
  drawn = (cleared_drawn (IsLed world.desktop) (led_keeps world.desktop) d session world.desktop begun (led_itself world.desktop is.drawn)).drawn;
  regular = cleared_keeps (desktop_for d) IsRegular (regular_all d) session world.desktop is.regular;
  within = λ e other there. by e other there (eqb e d) refl;
}
  where
    begun : 0 < d
    begun = above world.sessions d session is.begun at

    next : Desktop
    next = (cleared (desktop_for d) session world.desktop).1

    grown : world.desktop.table.serials ≤ next.table.serials
    grown = cleared_keeps (desktop_for d) (Counts world.desktop.table.serials) (all_keep d (Counts world.desktop.table.serials) (counts_keep d world.desktop.table.serials)) session world.desktop (omega arith)

    by : (e : ℕ) (other : Session) → lookup (without world.sessions d) e ≡ Some other → (b : Bool) → eqb e d ≡ b → TellsOfMade next.table other
    by e other there true here =
        let same : e ≡ d = eqb-true e d here in
        let none : ◌≡◌ {A = Option Session} None (Some other) = sym (without-here world.sessions d is.order) ∙ ap (lookup (without world.sessions d)) (sym same) ∙ there in absurd cc
    by e other there false here = tells_more world.desktop.table next.table grown other (is.within e other (sym (without-others world.sessions d e (eqb-false e d here)) ∙ there))

ended_well : (world : World) (d : ℕ) (found : Option Session) → IsWell world → lookup world.sessions d ≡ found → IsWell (ended world d found).world
ended_well world d None is at = turned_well (ended world d None).world world is refl
ended_well world d (Some session) is at =
    let after : World = record world { desktop = (cleared (desktop_for d) session world.desktop).1; sessions = without world.sessions d } in
    turned_well (ended world d (Some session)).world (settled_within (waiting_in after) after).0 (settled_well (waiting_in after) after (gone_well world d session is at)) refl

begun_well : (world : World) (d : ℕ) → (d ≡ 0 → ⊥) → IsWell world → IsWell (record world { sessions = and world.sessions d fresh })
begun_well world d counted is = record {
  order = ascend-and world.sessions d fresh is.order;
  begun = and-others world.sessions d 0 fresh (λ same. counted (sym same)) ∙ is.begun;
  drawn = is.drawn;
  regular = is.regular;
  within = λ e other there. by e other there (eqb e d) refl;
}
  where
    by : (e : ℕ) (other : Session) → lookup (and world.sessions d fresh) e ≡ Some other → (b : Bool) → eqb e d ≡ b → TellsOfMade world.desktop.table other
    by e other there true here =
        let same : e ≡ d = eqb-true e d here in
        let two : ◌≡◌ {A = Option Session} (Some fresh) (Some other) = sym (and-here world.sessions d fresh) ∙ ap (lookup (and world.sessions d fresh)) (sym same) ∙ there in
        let it : fresh ≡ other = cc in
        subst (TellsOfMade world.desktop.table) it (All-nil (λ (entry : ℕ × Fid). IsWithin world.desktop.table.serials entry.1.node))
    by e other there false here = is.within e other (sym (and-others world.sessions d e fresh (eqb-false e d here)) ∙ there)

pub step_well : (world : World) (begun : ℕ) (event : Event) → IsNext begun event → IsWell world → IsWell (step world event).world
step_well world begun (Begin d) next is = turned_well (step world (Begin d)).world (record world { sessions = and world.sessions d fresh }) (begun_well world d (λ same. omega (arith, next, same)) is) refl
step_well world begun (Msg d bytes mark) next is = served_well world d bytes mark (lookup world.sessions d) is refl
step_well world begun (Take d) next is = turned_well (step world (Take d)).world world is refl
step_well world begun (End d) next is = ended_well world d (lookup world.sessions d) is refl
step_well world begun Stop next is = turned_well (step world Stop).world world is refl

-- ---- all of it

-- What a server keeps before each event, where so many sessions have begun.
pub record IsServed (begun : ℕ) (world : World) : Type 0 where
  pub well : IsWell world
  pub known : AreKnown begun world.sessions
  pub linked : AreLinked world.desktop.device world.sessions
  pub waits : AllWaitOn world
  pub quiet : world.desktop.notes ≡ []

step_quiet : (world : World) (event : Event) → (step world event).world.desktop.notes ≡ []
step_quiet world (Begin d) = refl
step_quiet world (Msg d bytes mark) = by (lookup world.sessions d)
  where
    by : (o : Option Session) → (served world d bytes mark o).world.desktop.notes ≡ []
    by None = refl
    by (Some session) = refl
step_quiet world (Take d) = refl
step_quiet world (End d) = by (lookup world.sessions d)
  where
    by : (o : Option Session) → (ended world d o).world.desktop.notes ≡ []
    by None = refl
    by (Some session) = refl
step_quiet world Stop = refl

pub step_served : (world : World) (begun : ℕ) (event : Event) → IsNext begun event → IsServed begun world → IsServed (begun_after begun event) (step world event).world
step_served world begun event next is = record {
  well = step_well world begun event next is.well;
  known = step_known world begun event next is.well.order is.known;
  linked = step_linked world begun event next is.known is.linked;
  waits = step_waits world event is.well.order is.waits;
  quiet = step_quiet world event;
}

pub opened_served : (opening : Opening) → IsServed 0 (opened opening)
opened_served opening = record {
  well = record {
    order = tt;
    begun = refl;
    drawn = record { sound = opened_sound (display_of opening).r; orderly = first_orderly (display_of opening); furnished = first_furnished (display_of opening) refl; shows = first_shows (display_of opening) };
    regular = record { sound = opened_sound (display_of opening).r; unused = λ window later. refl };
    within = λ d session there. absurd (cc there);
  };
  known = λ d later. refl;
  linked = opened_linked opening;
  waits = history_waits opening [];
  quiet = refl;
}
