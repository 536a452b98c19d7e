-- An act of the windows orders no end of a connection, and is not refused for want of memory.
use Rattle.std.proofs.Common.{◌≡◌, ◌∙◌, ℕ, zero, suc, pos, Bool, true, false, not, ◌||◌, List, [], ◌∷◌, ◌++◌, reverse, length, Option, Some, None, Err, refl, ap, arith}
use Rattle.std.specs.Prelude.{◌==◌, nat_le}
use Rattle.std.specs.List.{fold, list_any}
use Rattle.std.proofs.lemmas.Bool.{cond_both}
use Rattle.std.proofs.lemmas.List.Folds.{list_any-append}
use Rattle.r9_geom.specs.declared.Rect.{Rect}
use Rattle.r9_geom.specs.declared.Point.{Point}
use Rattle.r9_geom.specs.Geometry.{shifted}
use Rattle.r9_event.specs.window.Ways.{way}
use Rattle.r9_event.specs.declared.event.rio.Note.TheVariants as note
use Rattle.r9_event.specs.declared.event.rio.Order.{Order}
use Rattle.r9_event.specs.declared.event.rio.Order.TheVariants as order
use Rattle.model_text.specs.text.Outcome.{Outcome, refuse_if, value_or_refuse}
use Rattle.model_files.specs.declared.mouse.Mouse.{Mouse}
use Rattle.model_files.specs.declared.wctl.Choice.{Choice}
use Rattle.model_files.specs.wctl.Command.{Wctl}
use Rattle.model_files.specs.wctl.Command as wctl
use Rattle.model_files.specs.wctl.Rectangle.{applied, box, is_near}
use Rattle.model_rio.specs.rio.Table.{Window, Table, Hold, Free, Held, Nobody, current_of, deepest, hold_of, is_host, made_in, name_by, path_of, rectangle_of, rio_of, topmost, window_of, windows_in}
use Rattle.model_rio.specs.rio.Act.{Act}
use Rattle.model_rio.specs.rio.Act as act
use Rattle.model_rio.specs.rio.Step.{Step, begun, in_place, is_held, is_same, not_current, noted, ordered, raised, retired, told_current, with_current, with_hold, with_rio, with_windows}
use Rattle.model_rio.specs.rio.Moving.{carried, deleted, dropped, each, followed, moved, replaced}
use Rattle.model_rio.specs.rio.Routing.{focus, given, keyed, keys_of, moused, point_of, pressed, reacted, receiver}
use Rattle.model_rio.specs.rio.Rio.{command_to, commanded, entered, first_rectangle, hidden, hosted, is_full, made, made_current, moved_by, new_in, new_window, outside, resized, rio, shown, to_corner, to_top, windows_off}
use Rattle.model_world.proofs.Others.{IsOther, behind_known, behind_step, by_case, refused_by, value_by}

-- the order ends a connection
abbrev pub ends : Order → Bool
ends (order.Leave client) = true
ends _ = false

-- none of the orders does
abbrev pub EndNone : List Order → Type 0
EndNone orders = list_any ends orders ≡ false

-- nothing that the step orders does
abbrev pub IsFair : Step → Type 0
IsFair step = EndNone step.orders

one_more : (orders : List Order) (o : Order) → ends o ≡ false → EndNone orders → EndNone (orders ++ o ∷ [])
one_more orders o fair none = list_any-append ends orders (o ∷ []) ∙ ap (λ (b : Bool). b || (ends o || false)) none ∙ ap (λ (b : Bool). b || false) fair

same_fair : (step next : Step) → next.orders ≡ step.orders → IsFair step → IsFair next
same_fair step next same fair = ap (λ (orders : List Order). list_any ends orders) same ∙ fair

-- ---- what orders nothing

told_same : (o : Option ℕ) (is : Bool) (step : Step) → (told_current o is step).orders ≡ step.orders
told_same None is step = refl
told_same (Some serial) is step = refl

current_same : (host : ℕ) (new : Option ℕ) (step : Step) → (with_current host new step).orders ≡ step.orders
unfolding with_current
current_same host new step =
    let old = current_of step.table host in
    let next : Step = with_rio host (λ rio. record rio { current = new }) step in
    cond_both (is_same old new) step (told_current new true (told_current old false next)) (λ (s : Step). s.orders ≡ step.orders) (λ _. refl)
    (λ _. told_same new true (told_current old false next) ∙ told_same old false next)

retired_same : (host serial : ℕ) (step : Step) → (retired host serial step).orders ≡ step.orders
unfolding retired
retired_same host serial step =
    let idle = not_current host serial step in
    let before : idle.orders ≡ step.orders =
    cond_both (is_same (current_of step.table host) (Some serial)) (with_current host None step) step (λ (s : Step). s.orders ≡ step.orders) (λ _. current_same host None step) (λ _. refl) in
    cond_both (is_held serial (hold_of idle.table host)) (with_hold host Nobody idle) idle (λ (s : Step). s.orders ≡ step.orders) (λ _. before) (λ _. before)

-- ---- new windows, and windows that come and go

made_fair : (w : Window) (step : Step) → IsFair step → IsFair (made w step)
unfolding made
made_fair w step fair =
    let path = path_of step.table w.host ++ w.number ∷ [] in
    let name = name_by path w.generation in
    let there : Step = noted w.serial (note.Made w.number w.serial name w.r (length path)) (ordered (order.Make w.serial w.host w.r name w.hidden (length path)) (entered w step)) in
    let still : IsFair there = one_more step.orders (order.Make w.serial w.host w.r name w.hidden (length path)) refl fair in
    cond_both w.hidden (noted w.serial (note.Hidden true) there) (with_current w.host (Some w.serial) there) IsFair (λ _. still)
    (λ _. same_fair there (with_current w.host (Some w.serial) there) (current_same w.host (Some w.serial) there) still)

new_in_fair : (host : ℕ) (options : List Choice) (hide : Bool) (step : Step) → IsFair step → IsOther IsFair (new_in host options hide step)
unfolding new_in
new_in_fair host options hide step fair =
    behind_step _ (value_or_refuse (rio_of step.table host) 42) _ (value_by _ 42 (λ e. omega (arith, e))) (λ rio.
    behind_step _ (value_or_refuse (applied false options (first_rectangle (rectangle_of step.table host))) 47) _ (value_by _ 47 (λ e. omega (arith, e))) (λ r.
    behind_step _ (refuse_if (is_full step.table) 49) _ (refused_by _ 49 (λ e. omega (arith, e))) (λ _. made_fair (new_window step.table host rio.next hide r) step fair)))

hidden_fair : (w : Window) (step : Step) → IsFair step → IsFair (hidden w step)
unfolding hidden
hidden_fair w step fair =
    let there : Step = noted w.serial (note.Hidden true) (ordered (order.Place w.serial outside) (with_windows (in_place (record w { hidden = true })) step)) in
    let still : IsFair there = one_more step.orders (order.Place w.serial outside) refl fair in
    cond_both w.hidden step (retired w.host w.serial there) IsFair (λ _. fair) (λ _. same_fair there (retired w.host w.serial there) (retired_same w.host w.serial there) still)

shown_fair : (w : Window) (step : Step) → IsFair step → IsFair (shown w step)
unfolding shown
shown_fair w step fair =
    let there : Step = noted w.serial (note.Hidden false) (ordered (order.Place w.serial w.r.min) step) in
    let up : Step = to_top (record w { hidden = false }) there in
    let still : IsFair up = one_more there.orders (order.Raise w.serial) refl (one_more step.orders (order.Place w.serial w.r.min) refl fair) in
    cond_both w.hidden (with_current w.host (Some w.serial) up) step IsFair (λ _. same_fair up (with_current w.host (Some w.serial) up) (current_same w.host (Some w.serial) up) still) (λ _. fair)

made_current_fair : (w : Window) (step : Step) → IsFair step → IsFair (made_current w step)
made_current_fair w step fair =
    cond_both w.hidden (shown w step) (with_current w.host (Some w.serial) step) IsFair (λ _. shown_fair w step fair)
    (λ _. same_fair step (with_current w.host (Some w.serial) step) (current_same w.host (Some w.serial) step) fair)

hosted_fair : (w : Window) (step : Step) → IsFair step → IsOther IsFair (hosted w step)
unfolding hosted
hosted_fair w step fair =
    behind_step _ (refuse_if (is_host step.table w.serial) 47) _ (refused_by _ 47 (λ e. omega (arith, e))) (λ _.
    behind_step _ (refuse_if (nat_le 8 (length (path_of step.table w.host))) 50) _ (refused_by _ 50 (λ e. omega (arith, e))) (λ _. one_more step.orders (order.Host w.serial true) refl fair))

-- ---- windows that move

replaced_fair : (keep : Bool) (w : Window) (r : Rect) (step : Step) → IsFair step → IsFair (replaced keep w r step)
unfolding replaced
replaced_fair keep w r step fair = one_more step.orders _ refl fair

abbrev Keeps : (Window → Rect → Step → Outcome Step) → Type 0
Keeps move = (w : Window) (r : Rect) (step : Step) → IsFair step → IsOther IsFair (move w r step)

abbrev KeepsEach : (Window → Step → Outcome Step) → Type 0
KeepsEach change = (w : Window) (step : Step) → IsFair step → IsOther IsFair (change w step)

carried_fair : (move : Window → Rect → Step → Outcome Step) → Keeps move → (by : Point) → KeepsEach (carried move by)
carried_fair move keeps by w step fair = by_case IsFair (is_near (shifted w.r by)) (move w (shifted w.r by) step) (Err 47) (keeps w (shifted w.r by) step fair) (λ e. omega (arith, e))

each_fair : (change : Window → Step → Outcome Step) → KeepsEach change → (ws : List Window) (step : Step) → IsFair step → IsOther IsFair (each change ws step)
each_fair change keeps [] step fair = fair
each_fair change keeps (w ∷ ws) step fair =
    behind_known IsFair IsFair (change w step) (each change ws) (keeps w step fair) (λ next more. each_fair change keeps ws next more)

followed_fair : (move : Window → Rect → Step → Outcome Step) → Keeps move → (host : ℕ) (fill : Bool) (by : Point) (step : Step) → IsFair step → IsOther IsFair (followed move host fill by step)
followed_fair move keeps host fill by step fair = by_test (is_host step.table host) refl
  where
    by_test : (b : Bool) → is_host step.table host ≡ b → IsOther IsFair (followed move host fill by step)
    by_test true at = rw at (each_fair (carried move by) (carried_fair move keeps by) (reverse (windows_in step.table host)) (ordered (order.Host host fill) step) (one_more step.orders (order.Host host fill) refl fair))
    by_test false at = rw at fair

moved_fair : (levels : ℕ) (keep : Bool) → Keeps (moved levels keep)
unfolding moved
moved_fair zero keep w r step fair = fair
moved_fair (suc levels) keep w r step fair =
    followed_fair (moved levels true) (moved_fair levels true) w.serial (not keep) (way w.r r) (replaced keep w r step) (replaced_fair keep w r step fair)

moved_by_fair : (keep : Bool) (options : List Choice) (w : Window) (step : Step) → IsFair step → IsOther IsFair (moved_by keep options w step)
unfolding moved_by
moved_by_fair keep options w step fair =
    behind_step _ (value_or_refuse (applied keep options w.r) 47) _ (value_by _ 47 (λ e. omega (arith, e))) (λ r. moved_fair deepest keep w r step fair)

resized_fair : (width height : ℕ) (step : Step) → IsFair step → IsOther IsFair (resized width height step)
unfolding resized
resized_fair width height step fair =
    let r = box (pos 0) (pos 0) (pos width) (pos height) in
    each_fair (moved_by true to_corner) (moved_by_fair true to_corner) (windows_off r step.table) (ordered (order.Size width height) (record step { table = record step.table { r = r } })) (one_more step.orders (order.Size width height) refl fair)

-- ---- windows that are deleted

dropped_fair : (w : Window) (step : Step) → IsFair step → IsFair (dropped w step)
unfolding dropped
dropped_fair w step fair =
    one_more (retired w.host w.serial step).orders (order.Drop w.serial) refl (same_fair step (retired w.host w.serial step) (retired_same w.host w.serial step) fair)

all_fair : (levels : ℕ) → ((w : Window) (step : Step) → IsFair step → IsFair (deleted levels w step)) → (ws : List Window) (step : Step) → IsFair step
    → IsFair (fold (λ step v. deleted levels v step) step ws)
all_fair levels deletes [] step fair = fair
all_fair levels deletes (w ∷ ws) step fair = all_fair levels deletes ws (deleted levels w step) (deletes w step fair)

deleted_fair : (levels : ℕ) (w : Window) (step : Step) → IsFair step → IsFair (deleted levels w step)
unfolding deleted
deleted_fair zero w step fair = fair
deleted_fair (suc levels) w step fair =
    let inner = made_in step.table w.serial in
    dropped_fair w (fold (λ step v. deleted levels v step) step inner) (all_fair levels (deleted_fair levels) inner step fair)

-- ---- the mouse and the keys

pressed_fair : (host : ℕ) (top : Option Window) (step : Step) → IsFair step → IsFair (pressed host top step)
pressed_fair host None step fair = fair
pressed_fair host (Some w) step fair =
    let up : Step = ordered (order.Raise w.serial) (with_windows (raised w) step) in
    same_fair up (with_current host (Some w.serial) up) (current_same host (Some w.serial) up) (one_more step.orders (order.Raise w.serial) refl fair)

reacted_fair : (e : Mouse) (host : ℕ) (step : Step) → IsFair step → IsFair (reacted e host step)
unfolding reacted
reacted_fair e host step fair = by_hold (hold_of step.table host) (e.buttons == 0) refl refl
  where
    by_hold : (hold : Hold) (released : Bool) → hold_of step.table host ≡ hold → (e.buttons == 0) ≡ released → IsFair (reacted e host step)
    by_hold Free true at up = rw (at, up) fair
    by_hold Free false at up = rw (at, up) (pressed_fair host (topmost step.table host (point_of e)) step fair)
    by_hold (Held serial) true at up = rw (at, up) fair
    by_hold Nobody true at up = rw (at, up) fair
    by_hold (Held serial) false at up = rw (at, up) fair
    by_hold Nobody false at up = rw (at, up) fair

given_fair : (pass : ℕ → Step → Step) → ((host : ℕ) (step : Step) → IsFair step → IsFair (pass host step)) → (e : Mouse) (to : Option ℕ) (step : Step) → IsFair step → IsFair (given pass e to step)
given_fair pass keeps e None step fair = fair
given_fair pass keeps e (Some serial) step fair = by_test (is_host step.table serial) refl
  where
    by_test : (b : Bool) → is_host step.table serial ≡ b → IsFair (given pass e (Some serial) step)
    by_test true at = rw at (keeps serial step fair)
    by_test false at = rw at fair

moused_fair : (levels : ℕ) (e : Mouse) (host : ℕ) (step : Step) → IsFair step → IsFair (moused levels e host step)
unfolding moused
moused_fair zero e host step fair = fair
moused_fair (suc levels) e host step fair =
    given_fair (moused levels e) (moused_fair levels e) e (receiver step.table e host (hold_of step.table host)) (reacted e host step) (reacted_fair e host step fair)

keyed_fair : (to : Option ℕ) (keys : List (List ℕ)) (step : Step) → IsFair step → IsFair (keyed to keys step)
keyed_fair None keys step fair = fair
keyed_fair (Some serial) [] step fair = fair
keyed_fair (Some serial) (key ∷ keys) step fair = keyed_fair (Some serial) keys (noted serial (note.Key key) step) fair

-- ---- each act

commanded_fair : (what : Wctl) (w : Window) (step : Step) → IsFair step → IsOther IsFair (commanded what w step)
commanded_fair (wctl.New options hide) w step fair = new_in_fair w.host options hide step fair
commanded_fair (wctl.Resize options) w step fair = moved_by_fair false options w step fair
commanded_fair (wctl.Move options) w step fair = moved_by_fair true options w step fair
commanded_fair wctl.Top w step fair = one_more step.orders (order.Raise w.serial) refl fair
commanded_fair wctl.Bottom w step fair = one_more step.orders (order.Lower w.serial) refl fair
commanded_fair wctl.Hide w step fair = hidden_fair w step fair
commanded_fair wctl.Unhide w step fair = shown_fair w step fair
commanded_fair wctl.Current w step fair = made_current_fair w step fair
commanded_fair wctl.Delete w step fair = deleted_fair deepest w step fair
commanded_fair (wctl.Scroll scrolls) w step fair = fair
commanded_fair wctl.Set w step fair = fair
commanded_fair wctl.Host w step fair = hosted_fair w step fair

command_to_fair : (serial : ℕ) (what : Wctl) (step : Step) → IsFair step → IsOther IsFair (command_to serial what step)
unfolding command_to
command_to_fair serial what step fair =
    behind_step _ (value_or_refuse (window_of step.table serial) 42) _ (value_by _ 42 (λ e. omega (arith, e))) (λ w. commanded_fair what w step fair)

-- an act that is not refused orders no such end, and one that is refused is so for another reason than want of memory
pub rio_fair : (table : Table) (a : Act) → IsOther IsFair (rio table a)
rio_fair table (act.New host options hide) = new_in_fair host options hide (begun table) refl
rio_fair table (act.Command window what) = command_to_fair window what (begun table) refl
rio_fair table (act.Mouse pointer) = moused_fair deepest pointer 0 (begun table) refl
rio_fair table (act.Keys bytes) = keyed_fair (focus deepest table 0) (keys_of bytes) (begun table) refl
rio_fair table (act.Gone window) = command_to_fair window wctl.Delete (begun table) refl
rio_fair table (act.Size width height) = resized_fair width height (begun table) refl
