-- Which sessions need not be looked at after something happened.
use Rattle.std.proofs.Common.{◌≡◌, ◌∙◌, ℕ, Bool, true, false, cond, eqb, not, List, [], ◌∷◌, ◌++◌, All, Option, Some, None, Ok, Err, refl, sym, ap, subst, ne_eqb}
use Rattle.std.specs.Prelude.{◌==◌, ◌&&◌, ◌||◌}
use Rattle.std.specs.List.{list_any}
use Rattle.std.specs.Option.{option_map, option_map_or}
use Rattle.std.proofs.lemmas.Bool.{eqb-true, eqb-false}
use Rattle.std.proofs.lemmas.List.Elements.{All-cons, All-head, All-nil, All-tail}
use Rattle.r9_event.specs.declared.event.rio.Note.{Note}
use Rattle.model_text.specs.text.Outcome.{Outcome, ◌>>=◌, refuse_if, value_or_refuse}
use Rattle.model_text.specs.text.Map.{lookup}
use Rattle.model_files.specs.mouse.Queue.{answer_text}
use Rattle.model_files.specs.console.Console as console
use Rattle.model_rio.specs.window.Heard.{wctl_answer, wctl_text}
use Rattle.model_rio.specs.rio.Notes.{is_told}
use Rattle.model_files.specs.declared.tree.Kind.{Kind}
use Rattle.model_files.specs.declared.tree.Kind.TheVariants as kind
use Rattle.model_files.specs.tree.Tree.{check_live, is_ended, is_gone}
use Rattle.model_world.specs.Session.{Fid, Wait, Session}
use Rattle.model_world.specs.Desktop.{Desktop}
use Rattle.model_world.specs.Whole.{desktop_for, view_of}
use Rattle.model_world.specs.World.{World}
use Rattle.model_world.specs.Fids.{Left, cleared}
use Rattle.model_world.specs.Reading.{Given, given_now}
use Rattle.model_world.specs.Waiting.{answered_or, first_of, given_or_refused, one_answered, wait_answer}
use Rattle.model_world.specs.Answer.{answer}
use Rattle.model_world.specs.Links.{is_among}
use Rattle.model_world.specs.Standing.{AllWaitOn, AreInOrder}
use Rattle.model_world.specs.Sleeping.{AllSleepOn, SleepsOn, gives_late, has_place, is_at, may_wake, stirred, told_windows, written_at}
use Rattle.model_world.proofs.Others.{some_is}
use Rattle.model_world.proofs.Settling.{AreIn, all_in}
use Rattle.model_world.proofs.Standing.{EachWaitsOn, both_none, each_of, mapped_none, of_each}
use Rattle.model_world.proofs.Sleeping.{answer_leaves, cleared_leaves, one_quiet}

-- ---- one session

or_true : (a b : Bool) → b ≡ true → (a || b) ≡ true
or_true true b e = refl
or_true false b e = e

live_still : (c : ℕ) (connections : List ℕ) (before after : Desktop) (fid : Fid) → (has_place fid ≡ true → SleepsOn before after fid.node.serial)
    → check_live ((desktop_for c).view after connections fid.node) fid.node ≡ check_live ((desktop_for c).view before connections fid.node) fid.node
unfolding check_live view_of
live_still c connections before after fid sleeps = ap (λ (gone : Bool). refuse_if gone 42 >>= λ _. refuse_if (is_ended (view_of before.table connections fid.node) fid.node) 34) gone
  where
    gone : is_gone (view_of after.table connections fid.node) fid.node ≡ is_gone (view_of before.table connections fid.node) fid.node
    gone = by (not (fid.node.serial == 0)) refl
      where
        by : (b : Bool) → not (fid.node.serial == 0) ≡ b → (b && not (view_of after.table connections fid.node).live) ≡ (b && not (view_of before.table connections fid.node).live)
        by true is = ap not (sleeps (ap (λ (b : Bool). b || gives_late fid.node.kind) is)).lives
        by false is = refl

none_mapped : {A B : Type 0} (f : A → B) (o : Option A) → o ≡ None → option_map f o ≡ None
none_mapped f o none = ap (λ (x : Option _). option_map f x) none

now_still : (c : ℕ) (before after : Desktop) (fid : Fid) (count : ℕ) (k : Kind) → (gives_late k ≡ true → SleepsOn before after fid.node.serial) → given_now (desktop_for c) before fid count k ≡ None
    → given_now (desktop_for c) after fid count k ≡ None
now_still c before after fid count kind.Mouse sleeps none =
    none_mapped _ (answer_text ((desktop_for c).pane after fid.node.serial).mouse) ((sleeps refl).mouse (mapped_none _ (answer_text ((desktop_for c).pane before fid.node.serial).mouse) none))
now_still c before after fid count kind.Cons sleeps none =
    none_mapped _ (console.read count ((desktop_for c).pane after fid.node.serial).console)
    ((sleeps refl).console count (mapped_none _ (console.read count ((desktop_for c).pane before fid.node.serial).console) none))
now_still c before after fid count kind.Wctl sleeps none =
    none_mapped _ (wctl_answer fid.told (wctl_text ((desktop_for c).pane after fid.node.serial).known))
    (ap (λ known. wctl_answer fid.told (wctl_text known)) (sleeps refl).known ∙ mapped_none _ (wctl_answer fid.told (wctl_text ((desktop_for c).pane before fid.node.serial).known)) none)
now_still c before after fid count _ sleeps none = refl

abbrev SleepsFor : Session → (before after : Desktop) → ℕ × Wait → Type 0
SleepsFor session before after entry = (fid : Fid) → lookup session.fids entry.1.fid ≡ Some fid → has_place fid ≡ true → SleepsOn before after fid.node.serial

wait_still : (c : ℕ) (session : Session) (before after : Desktop) (tag : ℕ) (wait : Wait) → SleepsFor session before after (tag, wait) → wait_answer (desktop_for c) session before wait ≡ None
    → wait_answer (desktop_for c) session after wait ≡ None
unfolding wait_answer
wait_still c session before after tag wait sleeps none = by (lookup session.fids wait.fid) refl none
  where
    found : Desktop → Option Fid → Outcome Fid
    found desktop o = value_or_refuse o 32 >>= λ fid. check_live ((desktop_for c).view desktop session.connections fid.node) fid.node >>= λ _. Ok fid

    live : (fid : Fid) → (has_place fid ≡ true → SleepsOn before after fid.node.serial) → (x : Outcome (Unit {0})) → given_or_refused (desktop_for c) before wait.count (x >>= λ _. Ok fid) ≡ None
        → given_or_refused (desktop_for c) after wait.count (x >>= λ _. Ok fid) ≡ None
    live fid placed (Ok _) none =
        ap (λ (o : Option (Given Desktop)). option_map Ok o)
        (now_still c before after fid wait.count fid.node.kind (λ late. placed (or_true (not (fid.node.serial == 0)) (gives_late fid.node.kind) late)) (mapped_none Ok (given_now (desktop_for c) before fid wait.count fid.node.kind) none))
    live fid placed (Err n) none = absurd (cc none)

    by : (o : Option Fid) → lookup session.fids wait.fid ≡ o → given_or_refused (desktop_for c) before wait.count (found before o) ≡ None → given_or_refused (desktop_for c) after wait.count (found after o) ≡ None
    by None is none = absurd (cc none)
    by (Some fid) is none =
        ap (λ (x : Outcome (Unit {0})). given_or_refused (desktop_for c) after wait.count (x >>= λ _. Ok fid)) (live_still c session.connections before after fid (sleeps fid is))
        ∙ live fid (sleeps fid is) (check_live ((desktop_for c).view before session.connections fid.node) fid.node) none

first_still : (c : ℕ) (session : Session) (before after : Desktop) (earlier later : List (ℕ × Wait)) → All (SleepsFor session before after) later → first_of (desktop_for c) session before earlier later ≡ None
    → first_of (desktop_for c) session after earlier later ≡ None
unfolding first_of
first_still c session before after earlier [] all none = refl
first_still c session before after earlier ((tag, wait) ∷ later) all none =
    let rest : Session = record session { waiting = earlier ++ later } in
    let both = both_none rest before tag wait (wait_answer (desktop_for c) session before wait) (first_of (desktop_for c) session before (earlier ++ (tag, wait) ∷ []) later) none in
    ap (λ (o : Option (Outcome (Given Desktop))). answered_or rest after tag wait o (first_of (desktop_for c) session after (earlier ++ (tag, wait) ∷ []) later))
    (wait_still c session before after tag wait (All-head (SleepsFor session before after) (tag, wait) later all) both.0)
    ∙ first_still c session before after (earlier ++ (tag, wait) ∷ []) later (All-tail (SleepsFor session before after) (tag, wait) later all) both.1

-- a session whose reads all sleep on is not answered
pub session_sleeps : (c : ℕ) (session : Session) (before after : Desktop) → AllSleepOn session before after → one_answered (desktop_for c) session before ≡ None → one_answered (desktop_for c) session after ≡ None
session_sleeps c session before after all none = first_still c session before after [] session.waiting all none

-- ---- where something happened

or_parts : (a b : Bool) → (a || b) ≡ false → (a ≡ false) × (b ≡ false)
or_parts false b e = (refl, e)
or_parts true b e = absurd (cc e)

and_first : (a b : Bool) → (a && b) ≡ false → a ≡ true → b ≡ false
and_first true b e is = e
and_first false b e is = absurd (cc is)

told_among : (window : ℕ) (notes : List (ℕ × Note)) → is_among (told_windows notes) window ≡ is_told window notes
told_among window [] = refl
told_among window (one ∷ notes) = ap (λ (b : Bool). (one.0 == window) || b) (told_among window notes)

pub not_stirred : (window wrote : ℕ) (notes : List (ℕ × Note)) → is_among (stirred notes wrote) window ≡ false → (is_told window notes ≡ false) × ((window == wrote) ≡ false)
not_stirred window wrote notes e =
    let parts = or_parts (wrote == window) (is_among (told_windows notes) window) e in
    (sym (told_among window notes) ∙ parts.1, ne_eqb window wrote (λ same. eqb-false wrote window parts.0 (sym same)))

-- reads of windows that are not among these sleep on
pub not_woken : (session : Session) (before after : Desktop) (windows : List ℕ) → ((window : ℕ) → is_among windows window ≡ false → SleepsOn before after window) → may_wake session windows ≡ false
    → AllSleepOn session before after
not_woken session before after windows elsewhere none = by session.waiting none
  where
    wakes : ℕ × Wait → Bool
    wakes entry = option_map_or (is_at windows) (lookup session.fids entry.1.fid) false

    one : (entry : ℕ × Wait) → wakes entry ≡ false → SleepsFor session before after entry
    one entry none fid is place = elsewhere fid.node.serial (and_first (has_place fid) (is_among windows fid.node.serial) (ap (λ (o : Option Fid). option_map_or (is_at windows) o false) (sym is) ∙ none) place)

    by : (entries : List (ℕ × Wait)) → list_any wakes entries ≡ false → All (SleepsFor session before after) entries
    by [] none = All-nil (SleepsFor session before after)
    by (entry ∷ entries) none =
        let parts = or_parts (wakes entry) (list_any wakes entries) none in
        All-cons (SleepsFor session before after) entry entries (one entry parts.0) (by entries parts.1)

-- what may not wake at some windows may not at fewer
pub fewer_wake : (session : Session) (fewer more : List ℕ) → ((window : ℕ) → is_among more window ≡ false → is_among fewer window ≡ false) → may_wake session more ≡ false → may_wake session fewer ≡ false
fewer_wake session fewer more within none = by session.waiting none
  where
    wakes : List ℕ → ℕ × Wait → Bool
    wakes windows entry = option_map_or (is_at windows) (lookup session.fids entry.1.fid) false

    one : (o : Option Fid) → option_map_or (is_at more) o false ≡ false → option_map_or (is_at fewer) o false ≡ false
    one None none = refl
    one (Some fid) none = at (has_place fid) none
      where
        at : (b : Bool) → (b && is_among more fid.node.serial) ≡ false → (b && is_among fewer fid.node.serial) ≡ false
        at true none = within fid.node.serial none
        at false none = refl

    by : (entries : List (ℕ × Wait)) → list_any (wakes more) entries ≡ false → list_any (wakes fewer) entries ≡ false
    by [] none = refl
    by (entry ∷ entries) none =
        let parts = or_parts (wakes more entry) (list_any (wakes more) entries) none in
        ap (λ (b : Bool). b || list_any (wakes fewer) entries) (one (lookup session.fids entry.1.fid) parts.0) ∙ by entries parts.1

-- ---- all sessions

found_waits : (desktop : Desktop) (c : ℕ) (session : Session) (sessions : List (ℕ × Session)) → EachWaitsOn desktop sessions → lookup sessions c ≡ Some session → one_answered (desktop_for c) session desktop ≡ None
found_waits desktop c session [] each there = absurd (cc there)
found_waits desktop c session (entry ∷ more) each there = by (eqb entry.0 c) refl there (found_waits desktop c session more each.1)
  where
    by : (b : Bool) → eqb entry.0 c ≡ b → cond b (Some entry.1) (lookup more c) ≡ Some session → (lookup more c ≡ Some session → one_answered (desktop_for c) session desktop ≡ None)
        → one_answered (desktop_for c) session desktop ≡ None
    by true is at later =
        subst (λ (s : Session). one_answered (desktop_for c) s desktop ≡ None) (some_is entry.1 session at) (subst (λ (k : ℕ). one_answered (desktop_for k) entry.1 desktop ≡ None) (eqb-true entry.0 c is) each.0)
    by false is at later = later at

-- where no read can be answered, no session's can
pub waits_each : (world : World) (c : ℕ) (session : Session) → AllWaitOn world → lookup world.sessions c ≡ Some session → one_answered (desktop_for c) session world.desktop ≡ None
waits_each world c session all there = found_waits world.desktop c session world.sessions (each_of world world.sessions all) there

-- and the other way round
pub all_wait : (world : World) → AreInOrder world → ((c : ℕ) (session : Session) → lookup world.sessions c ≡ Some session → one_answered (desktop_for c) session world.desktop ≡ None) → AllWaitOn world
all_wait world order each = of_each world world.sessions (by world.sessions (all_in world.sessions order))
  where
    by : (sessions : List (ℕ × Session)) → AreIn world.sessions sessions → EachWaitsOn world.desktop sessions
    by [] are = tt
    by (entry ∷ more) are = (each entry.0 entry.1 are.0, by more are.1)

-- a message leaves each other session waiting that has no read where something happened
pub message_spares : (world : World) (c d : ℕ) (session other : Session) (bytes : List ℕ) (mark : Option ℕ) → AllWaitOn world → lookup world.sessions d ≡ Some other
    → may_wake other (stirred (answer (desktop_for c) session world.desktop bytes mark).rest.notes (written_at session bytes)) ≡ false
    → one_answered (desktop_for d) other (answer (desktop_for c) session world.desktop bytes mark).rest ≡ None
message_spares world c d session other bytes mark all there none =
    let after = (answer (desktop_for c) session world.desktop bytes mark).rest in
    let wrote = written_at session bytes in
    session_sleeps d other world.desktop after
    (not_woken other world.desktop after (stirred after.notes wrote) elsewhere none)
    (waits_each world d other all there)
  where
    elsewhere : (window : ℕ) → is_among (stirred (answer (desktop_for c) session world.desktop bytes mark).rest.notes (written_at session bytes)) window ≡ false
        → SleepsOn world.desktop (answer (desktop_for c) session world.desktop bytes mark).rest window
    elsewhere window none =
        let parts = not_stirred window (written_at session bytes) (answer (desktop_for c) session world.desktop bytes mark).rest.notes none in
        (answer_leaves c session world.desktop bytes mark window parts.1 parts.0).1

-- and so does the end of a session
pub end_spares : (world : World) (c d : ℕ) (session other : Session) → AllWaitOn world → lookup world.sessions d ≡ Some other
    → may_wake other (told_windows (cleared (desktop_for c) session world.desktop).1.notes) ≡ false → one_answered (desktop_for d) other (cleared (desktop_for c) session world.desktop).1 ≡ None
end_spares world c d session other all there none =
    let after : Desktop = (cleared (desktop_for c) session world.desktop).1 in
    session_sleeps d other world.desktop after
    (not_woken other world.desktop after (told_windows after.notes) (λ window elsewhere. (cleared_leaves c session world.desktop window (sym (told_among window after.notes) ∙ elsewhere)).1) none)
    (waits_each world d other all there)

-- a late answer makes no other read answerable
pub late_spares : (c d : ℕ) (session other : Session) (desktop : Desktop) (after : Left Desktop) → one_answered (desktop_for c) session desktop ≡ Some after → one_answered (desktop_for d) other desktop ≡ None
    → one_answered (desktop_for d) other after.rest ≡ None
late_spares c d session other desktop after is none =
    session_sleeps d other desktop after.rest (by other.waiting) none
  where
    by : (entries : List (ℕ × Wait)) → All (SleepsFor other desktop after.rest) entries
    by [] = All-nil (SleepsFor other desktop after.rest)
    by (entry ∷ entries) = All-cons (SleepsFor other desktop after.rest) entry entries (λ fid at place. (one_quiet c session desktop after is).1 fid.node.serial) (by entries)
