-- The state after an event.
use Rattle.std.specs.Prelude.{◌||◌}
use Rattle.std.proofs.Common.{◌≡◌, ◌≤◌, arith, ℕ, Bool, true, false, eqb, List, [], Option, Some, None, Result, Ok, Err, IfOk, IfSome, refl, sym, ap, subst, ◌∙◌}
use Rattle.std.proofs.lemmas.Bool.{eqb-true, eqb-false}
use Rattle.r9_event.specs.declared.event.event.Event.{Event}
use Rattle.r9_event.specs.declared.event.event.Event.TheVariants.{End}
use Rattle.r9_event.specs.declared.event.event.Opening.{Opening}
use Rattle.r9_event.specs.declared.event.event.Reply.{Reply}
use Rattle.r9_event.specs.declared.event.event.Did.{Did}
use Rattle.r9_event.specs.declared.event.own.Use.{Use}
use Rattle.r9_memory.specs.declared.Memory.{Memory}
use Rattle.model_text.specs.text.Map.{lookup, with, without}
use Rattle.model_text.proofs.map.Ascending.{without-here}
use Rattle.model_text.proofs.map.Maps.{with-others, without-others}
use Rattle.model_world.specs.Session.{Session}
use Rattle.model_world.specs.Desktop.{Desktop}
use Rattle.model_world.specs.Fids.{Left}
use Rattle.model_world.specs.Answer.{answer}
use Rattle.model_world.specs.Links.{AreLinked, is_among}
use Rattle.model_world.specs.Sleeping.{may_wake, stirred, told_windows}
use Rattle.model_world.specs.Standing.{AllWaitOn}
use Rattle.model_world.specs.Waiting.{one_answered}
use Rattle.model_world.specs.Whole.{desktop_for}
use Rattle.model_world.specs.Replay.{Turn, ended, marked, settled_after, step, turned}
use Rattle.model_world.specs.World.{World}
use Rattle.model_world.proofs.Desktops.{device_of, keeps_connections}
use Rattle.model_world.proofs.Answers.{answer_holds}
use Rattle.model_world.proofs.Steps.{gone_linked, linked_of, replied_linked}
use Rattle.model_world.proofs.Waking.{all_wait, end_spares, fewer_wake, message_spares}
use Rattle.r9_files.specs.around.Words.{mark_after}
use Rattle.r9_desktop.specs.World.{desktop_of}
use Rattle.r9_hall.specs.hall.Settling.{world_of, AreAsked, AreWoken, IsSettled, IsSkipped, WaitsAt}
use Rattle.r9_hall.specs.hall.StateView.{IsLeft, IsMade, IsServed, IsTurn, world_with}
use Rattle.r9_hall.proofs.hall.Waits.{any_opening, none_waits, woken_ascend, woken_skips}
use Rattle.r9_hall.specs.declared.hall.sessions.Made.{Made}
use Rattle.r9_hall.specs.declared.hall.sessions.Own.{Own}
use Rattle.r9_hall.specs.declared.hall.sessions.Sessions.{Sessions}

-- ---- what is made of an event

-- an event without a mark stands in the history as it is
pub unmarked_made : (before after : Sessions) (event same : Event) (result : Result Made Memory) → event ≡ same → IfOk result (λ made. made.short ≡ None)
    → IfOk result (λ made. (opening : Opening) → IsMade opening before same made after) → IfOk result (λ made. (opening : Opening) → IsMade opening before (marked event made.short) made after)
unmarked_made before after event same (Err e) is none made = tt
unmarked_made before after event same (Ok made) is none each = λ opening.
    subst (λ (short : Option ℕ). IsMade opening before (marked event short) made after) (sym none) (subst (λ (x : Event). IsMade opening before x made after) (sym is) (each opening))

-- and nothing has to be said of its mark
pub unmarked : (P : Opening → ℕ → Type 0) (result : Result Made Memory) → IfOk result (λ made. made.short ≡ None) → IfOk result (λ made. (opening : Opening) → IfSome made.short (P opening))
unmarked P (Err e) none = tt
unmarked P (Ok made) none = λ opening. subst (λ (short : Option ℕ). IfSome short (P opening)) (sym none) tt

-- ---- the connections, before reads that wait are answered

pub served_linked : (c : ℕ) (before : List (ℕ × Session)) (desktop : Desktop) (found : Option Session) (bytes : List ℕ) (mark : Option ℕ) (given : Option Own) (after : List (ℕ × Session)) (left : Desktop)
    → AreLinked desktop.device before → lookup before c ≡ found → IsServed c found before desktop bytes mark given after left → AreLinked left.device after
served_linked c before desktop None bytes mark (Some own) after left linked at gives = absurd gives
served_linked c before desktop None bytes mark None after left linked at gives =
    let P : List (ℕ × Session) × Desktop → Type 0 = λ w. AreLinked w.1.device w.0 in subst P (λ i. (sym gives.0 i, sym gives.1 i)) linked
served_linked c before desktop (Some session) bytes mark None after left linked at gives = absurd gives
served_linked c before desktop (Some session) bytes mark (Some own) after left linked at gives =
    let gave = gives.2 in
    let world = world_of any_opening before desktop in
    let answered : Left Desktop = answer (desktop_for c) session desktop bytes (mark_after mark own.short) in
    let P : List (ℕ × Session) × Desktop → Type 0 = λ w. AreLinked w.1.device w.0 in
    subst P (λ i. (sym (gives.1 ∙ ap (λ (s : Session). with before c s) gave.session_is) i, sym gave.left_is i))
    (replied_linked world c session answered linked at (answer_holds c (desktop_for c) device_of (keeps_connections c) session desktop bytes (mark_after mark own.short) (linked_of desktop.device before c session linked at)))

pub left_linked : (c : ℕ) (before after : List (ℕ × Session)) (desktop left : Desktop) (found : Option Session) (lived : Bool) → AreLinked desktop.device before → lookup before c ≡ found → lived ≡ true
    → IsLeft c found desktop lived left → after ≡ without before c → AreLinked left.device after
left_linked c before after desktop left None true linked at lives went gone = absurd went
left_linked c before after desktop left None false linked at lives went gone = absurd cc
left_linked c before after desktop left (Some session) false linked at lives went gone = absurd went
left_linked c before after desktop left (Some session) true linked at lives went gone =
    let P : List (ℕ × Session) × Desktop → Type 0 = λ w. AreLinked w.1.device w.0 in
    subst P (λ i. (sym gone i, sym went i)) (gone_linked (world_of any_opening before desktop) c session linked at)

-- ---- which sessions are asked then

quiet_world : (sessions : List (ℕ × Session)) (desktop : Desktop) → AreLinked desktop.device sessions → ((d : ℕ) → WaitsAt sessions desktop d) → AllWaitOn (world_of any_opening sessions desktop)
quiet_world sessions desktop linked quiet = all_wait (world_of any_opening sessions desktop) linked.ascending quiet

pub served_asked : (c : ℕ) (before : List (ℕ × Session)) (desktop : Desktop) (found : Option Session) (bytes : List ℕ) (mark : Option ℕ) (own : Own) (after : List (ℕ × Session)) (left : Desktop) (asked : List ℕ)
    → AreLinked desktop.device before → ((d : ℕ) → WaitsAt before desktop d) → lookup before c ≡ found → IsServed c found before desktop bytes mark (Some own) after left → AreLinked left.device after
    → AreWoken c (stirred left.notes own.wrote) after asked → AreAsked after left asked
served_asked c before desktop None bytes mark own after left asked linked quiet at gives kept woken = absurd gives
served_asked c before desktop (Some session) bytes mark own after left asked linked quiet at gives kept woken = record {
  ascending = woken_ascend c (stirred left.notes own.wrote) after asked kept.ascending woken;
  others = λ d none other there. by d other there (woken_skips c (stirred left.notes own.wrote) after asked d other woken none there) (eqb d c) refl;
}
  where
    by : (d : ℕ) (other : Session) → lookup after d ≡ Some other → IsSkipped c (stirred left.notes own.wrote) (d, other) → (b : Bool) → eqb d c ≡ b → one_answered (desktop_for d) other left ≡ None
    by d other there skipped true same = none_waits d other left (skipped.1 (eqb-true d c same))
    by d other there skipped false apart =
        let gave = gives.2 in
        let same : lookup before d ≡ Some other =
        sym (with-others before c d gives.0 (λ e. eqb-false d c apart e)) ∙ ap (λ (l : List (ℕ × Session)). lookup l d) (sym gives.1) ∙ there in
        subst (λ (l : Desktop). one_answered (desktop_for d) other l ≡ None) (sym gave.left_is)
        (message_spares (world_of any_opening before desktop) c d session other bytes (mark_after mark own.short) (quiet_world before desktop linked quiet) same
        ((λ i. may_wake other (stirred (sym gave.left_is i).notes (sym gave.wrote_is i))) ∙ skipped.0))

pub left_asked : (c : ℕ) (before after : List (ℕ × Session)) (desktop left : Desktop) (found : Option Session) (lived : Bool) (asked : List ℕ) → AreLinked desktop.device before → ((d : ℕ) → WaitsAt before desktop d)
    → lookup before c ≡ found → lived ≡ true → IsLeft c found desktop lived left → after ≡ without before c → AreLinked left.device after → AreWoken c (stirred left.notes 0) after asked → AreAsked after left asked
left_asked c before after desktop left None true asked linked quiet at lives went gone kept woken = absurd went
left_asked c before after desktop left None false asked linked quiet at lives went gone kept woken = absurd cc
left_asked c before after desktop left (Some session) false asked linked quiet at lives went gone kept woken = absurd went
left_asked c before after desktop left (Some session) true asked linked quiet at lives went gone kept woken = record {
  ascending = woken_ascend c (stirred left.notes 0) after asked kept.ascending woken;
  others = λ d none other there. waits d other (ap (λ (l : List (ℕ × Session)). lookup l d) (sym gone) ∙ there) (woken_skips c (stirred left.notes 0) after asked d other woken none there);
}
  where
    fewer : (a b : Bool) → (a || b) ≡ false → b ≡ false
    fewer true b none = absurd (cc none)
    fewer false b none = none

    waits : (d : ℕ) (other : Session) → lookup (without before c) d ≡ Some other → IsSkipped c (stirred left.notes 0) (d, other) → one_answered (desktop_for d) other left ≡ None
    waits d other there skipped =
        let same : lookup before d ≡ Some other = sym (without-others before c d ended) ∙ there in
        let none : may_wake other (told_windows left.notes) ≡ false = fewer_wake other (told_windows left.notes) (stirred left.notes 0) (λ window. fewer (eqb 0 window) (is_among (told_windows left.notes) window)) skipped.0 in
        subst (λ (l : Desktop). one_answered (desktop_for d) other l ≡ None) (sym went)
        (end_spares (world_of any_opening before desktop) c d session other (quiet_world before desktop linked quiet) same (subst (λ (l : Desktop). may_wake other (told_windows l.notes) ≡ false) went none))
      where
        ended : d ≡ c → ⊥
        ended e = let two : None ≡ Some other = sym (without-here before c linked.ascending) ∙ ap (λ (k : ℕ). lookup (without before c) k) (sym e) ∙ there in cc two

-- ---- the end of a session

pub gone_made : (opening : Opening) (before gone after : Sessions) (c : ℕ) (found : Option Session) (lived : Bool) (replies : List Reply) (used : List Use) → lookup before.live.entries c ≡ found → lived ≡ true
    → IsLeft c found (desktop_of before.desktop) lived (desktop_of gone.desktop) → gone.live.entries ≡ without before.live.entries c → IsSettled (world_with opening gone) [] (world_with opening after) replies
    → IsMade opening before (End c) (record { replies = replies; uses = used; short = None; closed = None }) after
gone_made opening before gone after c None true replies used at lives left went settled = absurd left
gone_made opening before gone after c None false replies used at lives left went settled = absurd (cc lives)
gone_made opening before gone after c (Some session) false replies used at lives left went settled = absurd left
gone_made opening before gone after c (Some session) true replies used at lives left went settled = record {
  step_is = ap (λ (o : Option Session). ended (world_with opening before) c o) at
      ∙ ap (λ (w : World). settled_after w [] None) (λ i. world_of opening (sym went i) (sym left i))
      ∙ (λ i. turned (sym settled.world i) (sym settled.replies_are i) None);
}

pub absent_made : (opening : Opening) (before after : Sessions) (c : ℕ) (found : Option Session) (lived : Bool) (used : List Use) → lookup before.live.entries c ≡ found → lived ≡ false
    → IsLeft c found (desktop_of before.desktop) lived (desktop_of after.desktop) → after.live.entries ≡ before.live.entries → IsMade opening before (End c) (record { replies = []; uses = used; short = None; closed = None }) after
absent_made opening before after c None true used at lives left same = absurd left
absent_made opening before after c None false used at lives left same = record {
  step_is = ap (λ (o : Option Session). ended (world_with opening before) c o) at ∙ (λ i. turned (world_of opening (sym same i) (sym left i)) [] None);
}
absent_made opening before after c (Some session) true used at lives left same = absurd (cc lives)
absent_made opening before after c (Some session) false used at lives left same = absurd left

-- what was begun of a turn has changed nothing
pub begun_world : (opening : Opening) (before begun : Sessions) → desktop_of begun.desktop ≡ desktop_of before.desktop → begun.live.entries ≡ before.live.entries
    → world_with opening begun ≡ world_with opening before
begun_world opening before begun same live = λ i. world_of opening (live i) (same i)

pub begun_made : (opening : Opening) (before begun after : Sessions) (event : Event) (made : Made) → desktop_of begun.desktop ≡ desktop_of before.desktop → begun.live.entries ≡ before.live.entries
    → IsMade opening begun event made after → IsMade opening before event made after
begun_made opening before begun after event made same live is = record {
  step_is = ap (λ (w : World). step w event) (sym (begun_world opening before begun same live)) ∙ is.step_is;
}

-- the turn ends, and what the windows were told is taken
pub turn_of : (opening : Opening) (before kept after : Sessions) (event : Event) (made : Made) (did : Did) → IsMade opening before event made kept → did.replies ≡ made.replies → did.closed ≡ made.closed
    → did.notes ≡ (desktop_of kept.desktop).notes → desktop_of after.desktop ≡ record (desktop_of kept.desktop) { notes = []; cost = 0 } → after.live.entries ≡ kept.live.entries → IsTurn opening before event did after
turn_of opening before kept after event made did is replies closed told left live = record {
  world = ap (λ (t : Turn). t.world) is.step_is ∙ λ i. world_of opening (sym live i) (sym left i);
  replies_are = ap (λ (t : Turn). t.replies) is.step_is ∙ sym replies;
  notes_are = ap (λ (t : Turn). t.notes) is.step_is ∙ sym told;
  closed_is = ap (λ (t : Turn). t.closed) is.step_is ∙ sym closed;
}

-- what was written in the turn is at most what the event costs
pub turn_cost : (opening : Opening) (before kept : Sessions) (event : Event) (made : Made) (written : ℕ) → IsMade opening before event made kept → written ≤ (desktop_of kept.desktop).cost
    → written ≤ (step (world_with opening before) event).cost
turn_cost opening before kept event made written is less =
    let cost : (step (world_with opening before) event).cost ≡ (desktop_of kept.desktop).cost = ap (λ (t : Turn). t.cost) is.step_is in
    omega (arith, less, cost)
