-- What leaves the reads that wait at a window asleep.
use Rattle.std.proofs.Common.{◌≡◌, ◌∙◌, ℕ, Bool, true, false, cond, not, eqb, List, [], ◌∷◌, length, Option, Some, None, Ok, Err, refl, sym, ap, subst}
use Rattle.std.specs.Prelude.{◌+◌, ◌==◌, ◌||◌, is_some, IfOk}
use Rattle.std.specs.List.{fold}
use Rattle.std.specs.Option.{unwrap_or}
use Rattle.std.proofs.lemmas.Bool.{cond_both, eqb-true, eqb-false}
use Rattle.r9_geom.specs.declared.Point.{Point}
use Rattle.r9_event.specs.declared.event.rio.Note.{Note}
use Rattle.r9_event.specs.declared.event.rio.Note.TheVariants as note
use Rattle.model_text.specs.text.Outcome.{Outcome, value_or_refuse}
use Rattle.model_text.specs.text.Map.{lookup, with}
use Rattle.model_text.proofs.map.Maps.{and-others, with-here, with-others, without-others}
use Rattle.model_files.specs.mouse.Queue.{Queue, answer, answer_text, answered}
use Rattle.model_files.specs.declared.mouse.Mouse.{Mouse as Pointer}
use Rattle.model_files.specs.console.Console.{Console, after_read, read, with_raw}
use Rattle.model_rio.specs.window.Heard.{Heard, Noted, Raw, Written, Labelled, MouseRead, ConsoleRead, MouseHeld, ConsctlHeld}
use Rattle.model_rio.specs.window.Pane.{Pane, new_pane, pane_heard}
use Rattle.model_history.specs.declared.words.Size.{Size}
use Rattle.model_files.specs.wctl.Command.{Wctl}
use Rattle.model_files.specs.wctl.Command as wctl
use Rattle.model_files.specs.wctl.Reading.{command_of}
use Rattle.model_rio.specs.rio.Table.{window_of}
use Rattle.model_rio.specs.rio.Act.{Act}
use Rattle.model_rio.specs.rio.Act as act
use Rattle.model_rio.specs.rio.Rio.{rio}
use Rattle.model_rio.specs.rio.Step.{Step}
use Rattle.model_rio.specs.rio.Notes.{is_told}
use Rattle.model_rio.proofs.rio.Lives.{acts_tell, told_parts}
use Rattle.model_files.specs.tree.Attach.{Attach, Whole, Existing, Fresh, Unknown}
use Rattle.model_draw.specs.draw.World as draw
use Rattle.model_world.specs.Desktop.{Desktop, is_user, pane_of, pane_told, panes_told, stepped, stepped_if, stepped_or, users_of, without_user}
use Rattle.model_world.specs.Whole.{attached, commanded, desktop_for, device_commanded, device_commanded_by, host_of, left_one, made_by, moused, resized, serial_of, typed, used_by, window_made, with_cost, with_device}
use Rattle.model_world.specs.Sleeping.{SleepsOn, stirs}
use Rattle.model_world.proofs.Others.{after_if, after_step}

-- ---- one pane

-- reads of a pane that wait, wait on
pub record PaneSleeps (p q : Pane) : Type 0 where
  pub known : q.known ≡ p.known
  pub mouse : answer_text p.mouse ≡ None → answer_text q.mouse ≡ None
  pub console : (count : ℕ) → read count p.console ≡ None → read count q.console ≡ None

pane_same : (p : Pane) → PaneSleeps p p
pane_same p = record { known = refl; mouse = λ none. none; console = λ count none. none }

-- where no click and no move waits, and the image is the old one, none does after a read
mouse_parts : (clicks : List Pointer) (move : Option Pointer) (last : Pointer) (changed : Bool) → answer_text (record { clicks = clicks; move = move; last = last; changed = changed }) ≡ None
    → answer_text (answered (record { clicks = clicks; move = move; last = last; changed = changed })) ≡ None
unfolding answer answered
mouse_parts [] move last changed none = refl
mouse_parts (e ∷ clicks) move last changed none = absurd (cc none)

mouse_still : (q : Queue) → answer_text q ≡ None → answer_text (answered q) ≡ None
mouse_still q none = mouse_parts q.clicks q.move q.last q.changed none

some_given : (b : Bool) (x y : List ℕ) → cond b (Some x) (Some y) ≡ None → ⊥
some_given true x y e = cc e
some_given false x y e = cc e

console_parts : (n count : ℕ) (line ended : List (List ℕ)) (raw : Bool) (written : List ℕ) → read n (record { line = line; ended = ended; raw = raw; written = written }) ≡ None
    → read n (after_read count (record { line = line; ended = ended; raw = raw; written = written })) ≡ None
unfolding read after_read
console_parts n count line [] raw written none = cond_both (count == 0) _ _ (λ c. read n c ≡ None) (λ _. none) (λ _. none)
console_parts n count line (one ∷ lines) raw written none = absurd (some_given (n == 0) [] _ none)

console_still : (n count : ℕ) (c : Console) → read n c ≡ None → read n (after_read count c) ≡ None
console_still n count c none = console_parts n count c.line c.ended c.raw c.written none

heard_sleeps : (p : Pane) (h : Heard) → stirs h ≡ false → PaneSleeps p (pane_heard p h)
unfolding pane_heard with_raw read
heard_sleeps p (Noted n) e = absurd (cc e)
heard_sleeps p (Raw true) e = absurd (cc e)
heard_sleeps p (Raw false) e = record { known = refl; mouse = λ none. none; console = λ count none. none }
heard_sleeps p (Written bytes) e = record { known = refl; mouse = λ none. none; console = λ count none. none }
heard_sleeps p (Labelled bytes) e = record { known = refl; mouse = λ none. none; console = λ count none. none }
heard_sleeps p MouseRead e = record { known = refl; mouse = mouse_still p.mouse; console = λ count none. none }
heard_sleeps p (ConsoleRead count) e = record { known = refl; mouse = λ none. none; console = λ n none. console_still n count p.console none }
heard_sleeps p (MouseHeld held) e = record { known = refl; mouse = λ none. none; console = λ count none. none }
heard_sleeps p (ConsctlHeld true) e = record { known = refl; mouse = λ none. none; console = λ count none. none }
heard_sleeps p (ConsctlHeld false) e = record { known = refl; mouse = λ none. none; console = λ count none. none }

-- ---- the pane of a window

with_none : {A : Type 0} (es : List (ℕ × A)) (key : ℕ) (value : A) → lookup es key ≡ None → lookup (with es key value) key ≡ None
with_none [] key value none = refl
with_none (e ∷ es) key value none = by (eqb e.0 key) refl none (with_none es key value)
  where
    by : (b : Bool) → eqb e.0 key ≡ b → cond b (Some e.1) (lookup es key) ≡ None → (lookup es key ≡ None → lookup (with es key value) key ≡ None)
        → lookup (cond b ((e.0, value) ∷ es) (e ∷ with es key value)) key ≡ None
    by true at none more = absurd (cc none)
    by false at none more = rw at (more none)

pane_is : (panes all : List (ℕ × Pane)) (at : ℕ) → lookup all at ≡ lookup panes at → PaneSleeps (pane_of panes at) (pane_of all at)
pane_is panes all at same = subst (λ (p : Pane). PaneSleeps (pane_of panes at) p) (sym (ap (λ (o : Option Pane). unwrap_or o new_pane) same)) (pane_same (pane_of panes at))

-- something that is heard at a window, which leaves its pane asleep, or another's
told_sleeps : (panes : List (ℕ × Pane)) (window at : ℕ) (h : Heard) → (at ≡ window → stirs h ≡ false) → PaneSleeps (pane_of panes at) (pane_of (pane_told panes window h) at)
told_sleeps panes window at h quiet = by (eqb at window) refl
  where
    next : Pane
    next = pane_heard (pane_of panes window) h

    here : at ≡ window → (o : Option Pane) → lookup panes window ≡ o → PaneSleeps (pane_of panes window) (pane_of (pane_told panes window h) window)
    here same None is = pane_is panes (pane_told panes window h) window (with_none panes window next is ∙ sym is)
    here same (Some old) is =
        subst (λ (p : Pane). PaneSleeps (pane_of panes window) p) (sym (ap (λ (o : Option Pane). unwrap_or o new_pane) (with-here panes window old next is))) (heard_sleeps (pane_of panes window) h (quiet same))

    by : (b : Bool) → eqb at window ≡ b → PaneSleeps (pane_of panes at) (pane_of (pane_told panes window h) at)
    by true is =
        let same : at ≡ window = eqb-true at window is in
        subst (λ (n : ℕ). PaneSleeps (pane_of panes n) (pane_of (pane_told panes window h) n)) (sym same) (here same (lookup panes window) refl)
    by false is = pane_is panes (pane_told panes window h) at (with-others panes window at next (λ same. eqb-false at window is same))

-- ---- what is left of all windows

asleep : (before after : Desktop) (window : ℕ) → is_some (window_of after.table window) ≡ is_some (window_of before.table window)
    → PaneSleeps (pane_of before.panes window) (pane_of after.panes window) → SleepsOn before after window
asleep before after window lives pane = record { lives = lives; known = pane.known; mouse = pane.mouse; console = pane.console }

pub sleeps_same : (desktop : Desktop) (window : ℕ) → SleepsOn desktop desktop window
sleeps_same desktop window = record { lives = refl; known = refl; mouse = λ none. none; console = λ count none. none }

pub sleeps_then : (a b c : Desktop) (window : ℕ) → SleepsOn a b window → SleepsOn b c window → SleepsOn a c window
sleeps_then a b c window first second = record {
  lives = second.lives ∙ first.lives;
  known = second.known ∙ first.known;
  mouse = λ none. second.mouse (first.mouse none);
  console = λ count none. second.console count (first.console count none);
}

-- each window that no note is to sleeps on
abbrev pub Leaves : Desktop → Desktop → Type 0
Leaves before after = (window : ℕ) → is_told window after.notes ≡ false → (is_told window before.notes ≡ false) × SleepsOn before after window

-- each but one
abbrev pub LeavesBut : (wrote : ℕ) → Desktop → Desktop → Type 0
LeavesBut wrote before after = (window : ℕ) → (window == wrote) ≡ false → is_told window after.notes ≡ false → (is_told window before.notes ≡ false) × SleepsOn before after window

pub but : (wrote : ℕ) (before after : Desktop) → Leaves before after → LeavesBut wrote before after
but wrote before after leaves window other none = leaves window none

-- no note is added, and all sleep on
abbrev pub IsQuiet : Desktop → Desktop → Type 0
IsQuiet before after = (after.notes ≡ before.notes) × ((window : ℕ) → SleepsOn before after window)

pub quiet_leaves : (before after : Desktop) → IsQuiet before after → Leaves before after
quiet_leaves before after quiet window none = (ap (is_told window) (sym quiet.0) ∙ none, quiet.1 window)

pub leaves_same : (desktop : Desktop) → Leaves desktop desktop
leaves_same desktop window none = (none, sleeps_same desktop window)

pub leaves_then : (a b c : Desktop) → Leaves a b → Leaves b c → Leaves a c
leaves_then a b c first second window none =
    let two = second window none in
    let one = first window two.0 in
    (one.0, sleeps_then a b c window one.1 two.1)

-- the device, the users, the snarfs and the cost make no difference
pub beside_leaves : (desktop : Desktop) (device : draw.World) (users : List (ℕ × List ℕ)) (snarfs : List (ℕ × List ℕ)) (cost : ℕ)
    → Leaves desktop (record desktop { device = device; users = users; snarfs = snarfs; cost = cost })
beside_leaves desktop device users snarfs cost window none = (none, record { lives = refl; known = refl; mouse = λ none. none; console = λ count none. none })

pub device_leaves : (desktop : Desktop) (device : draw.World) → Leaves desktop (with_device desktop device)
device_leaves desktop device = beside_leaves desktop device desktop.users desktop.snarfs desktop.cost

pub cost_leaves : (desktop : Desktop) (device : draw.World) (cost : ℕ) → Leaves desktop (with_cost desktop device cost)
cost_leaves desktop device cost = beside_leaves desktop device desktop.users desktop.snarfs (desktop.cost + cost)

users_leaves : (desktop : Desktop) (users : List (ℕ × List ℕ)) → Leaves desktop (record desktop { users = users })
users_leaves desktop users = beside_leaves desktop desktop.device users desktop.snarfs desktop.cost

-- where the mouse was last makes none, either
pointer_leaves : (desktop : Desktop) (pointer : Option Point) → Leaves desktop (record desktop { pointer = pointer })
pointer_leaves desktop pointer window none = (none, record { lives = refl; known = refl; mouse = λ none. none; console = λ count none. none })

-- ---- what is heard

pub hear_quiet : (c : ℕ) (desktop : Desktop) (window : ℕ) (h : Heard) → stirs h ≡ false → IsQuiet desktop ((desktop_for c).hear desktop window h)
hear_quiet c desktop window h quiet = (refl, λ at. asleep desktop ((desktop_for c).hear desktop window h) at refl (told_sleeps desktop.panes window at h (λ _. quiet)))

pub hear_others : (c : ℕ) (desktop : Desktop) (window : ℕ) (h : Heard) → LeavesBut window desktop ((desktop_for c).hear desktop window h)
hear_others c desktop window h at other none =
    (none, asleep desktop ((desktop_for c).hear desktop window h) at refl (told_sleeps desktop.panes window at h (λ same. absurd (eqb-false at window other same))))

-- ---- steps of the windows

one_other : (panes : List (ℕ × Pane)) (at window : ℕ) (n : Note) → (window ≡ at → ⊥) → lookup (panes_told panes (at, n)) window ≡ lookup panes window
one_other panes at window (note.Made number serial name r depth) apart = and-others panes at window _ apart
one_other panes at window note.Deleted apart = without-others panes at window apart
one_other panes at window n apart = with-others panes at window _ apart

panes_others : (window : ℕ) (notes : List (ℕ × Note)) (panes : List (ℕ × Pane)) → is_told window notes ≡ false → lookup (fold panes_told panes notes) window ≡ lookup panes window
panes_others window [] panes none = refl
panes_others window ((at, n) ∷ notes) panes none =
    let parts = told_parts window ((at, n) ∷ []) notes none in
    panes_others window notes (panes_told panes (at, n)) parts.1 ∙ one_other panes at window n (λ same. eqb-false at window (or_first (at == window) parts.0) (sym same))
  where
    or_first : (b : Bool) → (b || false) ≡ false → b ≡ false
    or_first false e = refl
    or_first true e = absurd (cc e)

pub step_sleeps : (desktop : Desktop) (a : Act) (step : Step) (window : ℕ) → rio desktop.table a ≡ Ok step → is_told window step.notes ≡ false → SleepsOn desktop (stepped desktop step) window
unfolding stepped
step_sleeps desktop a step window is none =
    let after : Desktop = stepped desktop step in
    asleep desktop after window (acts_tell desktop.table a step window is none) (pane_is desktop.panes after.panes window (panes_others window step.notes desktop.panes none))

stepped_leaves : (desktop : Desktop) (a : Act) (step : Step) → rio desktop.table a ≡ Ok step → Leaves desktop (stepped desktop step)
unfolding stepped
stepped_leaves desktop a step is window none = let parts = told_parts window desktop.notes step.notes none in (parts.0, step_sleeps desktop a step window is parts.1)

stepped_or_leaves : (desktop : Desktop) (a : Act) → IfOk (stepped_or desktop (rio desktop.table a)) (Leaves desktop)
stepped_or_leaves desktop a = by (rio desktop.table a) refl
  where
    by : (o : Outcome Step) → rio desktop.table a ≡ o → IfOk (stepped_or desktop o) (Leaves desktop)
    by (Ok step) is = stepped_leaves desktop a step is
    by (Err n) is = tt

stepped_if_leaves : (desktop : Desktop) (a : Act) → Leaves desktop (stepped_if desktop (rio desktop.table a))
stepped_if_leaves desktop a = by (rio desktop.table a) refl
  where
    by : (o : Outcome Step) → rio desktop.table a ≡ o → Leaves desktop (stepped_if desktop o)
    by (Ok step) is = stepped_leaves desktop a step is
    by (Err n) is = leaves_same desktop

-- ---- commands

pub commanded_leaves : (desktop : Desktop) (window : ℕ) (text : List ℕ) → IfOk (commanded desktop window text) (Leaves desktop)
unfolding commanded
commanded_leaves desktop window text = after_step _ (value_or_refuse (command_of false text) 47) _ (λ command _. stepped_or_leaves desktop (act.Command window command.what))

device_by_leaves : (desktop : Desktop) (path : List ℕ) (what : Wctl) → IfOk (device_commanded_by desktop path what) (Leaves desktop)
device_by_leaves desktop path (wctl.New options hide) = after_step _ (host_of desktop.table path 47) _ (λ host _. stepped_or_leaves desktop (act.New host options hide))
device_by_leaves desktop path what = after_step _ (serial_of desktop.table path 47) _ (λ window _. stepped_or_leaves desktop (act.Command window what))

pub device_commanded_leaves : (desktop : Desktop) (text : List ℕ) → IfOk (device_commanded desktop text) (Leaves desktop)
unfolding device_commanded
device_commanded_leaves desktop text = after_step _ (value_or_refuse (command_of true text) 47) _ (λ command _. device_by_leaves desktop command.id command.what)

-- ---- attaching, and leaving

made_by_leaves : (desktop : Desktop) (host : ℕ) (what : Wctl) → IfOk (made_by desktop host what) (Leaves desktop)
made_by_leaves desktop host (wctl.New options hide) = stepped_or_leaves desktop (act.New host options hide)
made_by_leaves desktop host _ = tt

abbrev pub LeavesMade : Desktop → Desktop × ℕ → Type 0
LeavesMade desktop made = Leaves desktop made.0

window_made_leaves : (desktop : Desktop) (path text : List ℕ) → IfOk (window_made desktop path text) (LeavesMade desktop)
unfolding window_made
window_made_leaves desktop path text =
    after_step _ (host_of desktop.table path 41) _ (λ host _.
    after_step _ (value_or_refuse (command_of false text) 47) _ (λ command _.
    after_if _ (Leaves desktop) (made_by desktop host command.what) _ (made_by_leaves desktop host command.what) (λ next leaves. leaves)))

used_leaves : (session : ℕ) (desktop : Desktop) (made : Desktop × ℕ) → LeavesMade desktop made → LeavesMade desktop (used_by session made)
used_leaves session desktop (next, window) leaves = leaves_then desktop next (used_by session (next, window)).0 leaves (users_leaves next (used_by session (next, window)).0.users)

pub attached_leaves : (session : ℕ) (desktop : Desktop) (name : Attach) → IfOk (attached session desktop name) (LeavesMade desktop)
unfolding attached
attached_leaves session desktop Whole = leaves_same desktop
attached_leaves session desktop Unknown = tt
attached_leaves session desktop (Existing path) = after_step _ (serial_of desktop.table path 41) _ (λ window _. used_leaves session desktop (desktop, window) (leaves_same desktop))
attached_leaves session desktop (Fresh path text) =
    after_if _ (LeavesMade desktop) (window_made desktop path text) _ (window_made_leaves desktop path text) (λ made leaves. used_leaves session desktop made leaves)

left_one_leaves : (session : ℕ) (desktop : Desktop) (window : ℕ) → Leaves desktop (left_one session desktop window)
unfolding left_one
left_one_leaves session desktop window =
    let left : Desktop = record desktop { users = without_user desktop.users window session } in
    let gone : Desktop = stepped_if left (rio left.table (act.Gone window)) in
    let without : Leaves desktop left = users_leaves desktop left.users in
    cond_both (not (is_user desktop.users window session)) desktop _ (Leaves desktop) (λ _. leaves_same desktop) (λ _.
    cond_both (length (users_of left.users window) == 0) gone left (Leaves desktop) (λ _. leaves_then desktop left gone without (stepped_if_leaves left (act.Gone window))) (λ _. without))

pub left_leaves : (session : ℕ) (windows : List ℕ) (desktop : Desktop) → Leaves desktop (fold (left_one session) desktop windows)
left_leaves session [] desktop = leaves_same desktop
left_leaves session (window ∷ windows) desktop =
    let next = left_one session desktop window in leaves_then desktop next (fold (left_one session) next windows) (left_one_leaves session desktop window) (left_leaves session windows next)

-- ---- input

pub moused_leaves : (desktop : Desktop) (e : Pointer) → Leaves desktop (moused desktop e)
unfolding moused
moused_leaves desktop e =
    let next : Desktop = stepped_if desktop (rio desktop.table (act.Mouse e)) in
    leaves_then desktop next (moused desktop e) (stepped_if_leaves desktop (act.Mouse e)) (pointer_leaves next (moused desktop e).pointer)

pub typed_leaves : (desktop : Desktop) (keys : List ℕ) → Leaves desktop (typed desktop keys)
unfolding typed
typed_leaves desktop keys = stepped_if_leaves desktop (act.Keys keys)

-- ---- the size of the display

pub resized_leaves : (desktop : Desktop) (size : Size) → IfOk (resized desktop size) (Leaves desktop)
unfolding resized
resized_leaves desktop size = stepped_or_leaves desktop (act.Size size.width size.height)
