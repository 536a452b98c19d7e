-- No act ends a connection to the draw device.
use Rattle.std.proofs.Common.{◌≡◌, ℕ, zero, suc, pos, ◌==◌, Bool, true, false, cond, not, List, [], ◌∷◌, ◌++◌, fold, reverse, length, nat_le, Option, Some, None, Ok, Err, refl, subst}
use Rattle.std.proofs.lemmas.Bool.{cond_both}
use Rattle.std.proofs.lemmas.List.Elements.{All-nil, All-push}
use Rattle.r9_geom.specs.declared.Rect.{Rect}
use Rattle.r9_geom.specs.declared.Point.{Point}
use Rattle.r9_geom.specs.Geometry.{shifted}
use Rattle.r9_event.specs.window.Ways.{way}
use Rattle.r9_event.specs.declared.event.rio.Note.TheVariants as note
use Rattle.r9_event.specs.declared.event.rio.Order.{Order}
use Rattle.r9_event.specs.declared.event.rio.Order.TheVariants as order
use Rattle.model_text.specs.text.Outcome.{Outcome}
use Rattle.model_files.specs.declared.mouse.Mouse.{Mouse}
use Rattle.model_files.specs.declared.wctl.Choice.{Choice}
use Rattle.model_files.specs.wctl.Command.{Wctl}
use Rattle.model_files.specs.wctl.Command as wctl
use Rattle.model_files.specs.wctl.Rectangle.{applied, box, is_near}
use Rattle.model_rio.specs.rio.Table.{Window, Table, Hold, Free, Held, Nobody, rio_of, window_of, path_of, name_by, rectangle_of, is_host, windows_in, made_in, deepest, current_of, hold_of, topmost}
use Rattle.model_rio.specs.rio.Act.{Act}
use Rattle.model_rio.specs.rio.Act as act
use Rattle.model_rio.specs.rio.Step.{Step, begun, ordered, noted, with_rio, with_hold, with_windows, with_current, told_current, in_place, raised, lowered, is_same, is_held, not_current, retired}
use Rattle.model_rio.specs.rio.Moving.{next_name, renewed, replaced, each, carried, followed, moved, forgotten, dropped, deleted}
use Rattle.model_rio.specs.rio.Routing.{moused, reacted, given, pressed, point_of, receiver, focus, keyed, keys_of}
use Rattle.model_rio.specs.rio.Rio.{is_full, new_window, entered, made, new_in, first_rectangle, hidden, shown, to_top, to_bottom, made_current, hosted, moved_by, windows_off, to_corner, resized, commanded, command_to, outside, rio}
use Rattle.r9_event.specs.event.Orders.{EndsNoConnection, EndNoConnection}
use Rattle.model_rio.proofs.rio.Refusals.{same_Ok, refuse_ok, value_ok, then_ok}

-- none of a step's orders ends a connection
abbrev Keeps : Step → Type 0
Keeps step = EndNoConnection step.orders

begun_keeps : (table : Table) → Keeps (begun table)
begun_keeps table = All-nil EndsNoConnection

ordered_keeps : (o : Order) (step : Step) → EndsNoConnection o → Keeps step → Keeps (ordered o step)
ordered_keeps o step is keeps = All-push EndsNoConnection step.orders o keeps is

-- ---- the current window

told_keeps : (o : Option ℕ) (is : Bool) (step : Step) → Keeps step → Keeps (told_current o is step)
told_keeps None is step keeps = keeps
told_keeps (Some serial) is step keeps = keeps

current_keeps : (host : ℕ) (new : Option ℕ) (step : Step) → Keeps step → Keeps (with_current host new step)
unfolding with_current
current_keeps host new step keeps =
    let old = current_of step.table host in
    let next : Step = with_rio host (λ rio. record rio { current = new }) step in
    cond_both (is_same old new) step (told_current new true (told_current old false next)) Keeps (λ _. keeps)
    (λ _. told_keeps new true (told_current old false next) (told_keeps old false next keeps))

retired_keeps : (host serial : ℕ) (step : Step) → Keeps step → Keeps (retired host serial step)
unfolding retired
retired_keeps host serial step keeps =
    let idle = not_current host serial step in
    let then : Keeps idle = cond_both (is_same (current_of step.table host) (Some serial)) (with_current host None step) step Keeps (λ _. current_keeps host None step keeps) (λ _. keeps) in
    cond_both (is_held serial (hold_of idle.table host)) (with_hold host Nobody idle) idle Keeps (λ _. then) (λ _. then)

-- ---- windows that are made, hidden and shown

made_keeps : (w : Window) (step : Step) → Keeps step → Keeps (made w step)
unfolding made
made_keeps w step keeps =
    let path = path_of step.table w.host ++ w.number ∷ [] in
    let name = name_by path w.generation in
    let make = order.Make w.serial w.host w.r name w.hidden (length path) in
    let there : Step = noted w.serial (note.Made w.number w.serial name w.r (length path)) (ordered make (entered w step)) in
    let then : Keeps there = ordered_keeps make (entered w step) tt keeps in
    cond_both w.hidden (noted w.serial (note.Hidden true) there) (with_current w.host (Some w.serial) there) Keeps (λ _. then) (λ _. current_keeps w.host (Some w.serial) there then)

hidden_keeps : (w : Window) (step : Step) → Keeps step → Keeps (hidden w step)
unfolding hidden
hidden_keeps w step keeps =
    let before : Step = with_windows (in_place (record w { hidden = true })) step in
    let there : Step = noted w.serial (note.Hidden true) (ordered (order.Place w.serial outside) before) in
    cond_both w.hidden step (retired w.host w.serial there) Keeps (λ _. keeps) (λ _. retired_keeps w.host w.serial there (ordered_keeps (order.Place w.serial outside) before tt keeps))

top_keeps : (w : Window) (step : Step) → Keeps step → Keeps (to_top w step)
top_keeps w step keeps = ordered_keeps (order.Raise w.serial) (with_windows (raised w) step) tt keeps

bottom_keeps : (w : Window) (step : Step) → Keeps step → Keeps (to_bottom w step)
bottom_keeps w step keeps = ordered_keeps (order.Lower w.serial) (with_windows (lowered w) step) tt keeps

shown_keeps : (w : Window) (step : Step) → Keeps step → Keeps (shown w step)
unfolding shown
shown_keeps w step keeps =
    let there : Step = noted w.serial (note.Hidden false) (ordered (order.Place w.serial w.r.min) step) in
    let up : Step = to_top (record w { hidden = false }) there in
    let then : Keeps up = top_keeps (record w { hidden = false }) there (ordered_keeps (order.Place w.serial w.r.min) step tt keeps) in
    cond_both w.hidden (with_current w.host (Some w.serial) up) step Keeps (λ _. current_keeps w.host (Some w.serial) up then) (λ _. keeps)

made_current_keeps : (w : Window) (step : Step) → Keeps step → Keeps (made_current w step)
made_current_keeps w step keeps =
    cond_both w.hidden (shown w step) (with_current w.host (Some w.serial) step) Keeps (λ _. shown_keeps w step keeps) (λ _. current_keeps w.host (Some w.serial) step keeps)

-- ---- input

pressed_keeps : (host : ℕ) (top : Option Window) (step : Step) → Keeps step → Keeps (pressed host top step)
pressed_keeps host None step keeps = keeps
pressed_keeps host (Some w) step keeps = current_keeps host (Some w.serial) (to_top w step) (top_keeps w step keeps)

reacted_keeps : (e : Mouse) (host : ℕ) (step : Step) → Keeps step → Keeps (reacted e host step)
unfolding reacted
reacted_keeps e host step keeps = by_hold (hold_of step.table host) (e.buttons == 0) refl refl
  where
    by_hold : (hold : Hold) (released : Bool) → hold_of step.table host ≡ hold → (e.buttons == 0) ≡ released → Keeps (reacted e host step)
    by_hold Free true at up = rw (at, up) keeps
    by_hold Free false at up = rw (at, up) (pressed_keeps host (topmost step.table host (point_of e)) step keeps)
    by_hold (Held serial) true at up = rw (at, up) keeps
    by_hold Nobody true at up = rw (at, up) keeps
    by_hold (Held serial) false at up = rw (at, up) keeps
    by_hold Nobody false at up = rw (at, up) keeps

given_keeps : (pass : ℕ → Step → Step) → ((host : ℕ) (step : Step) → Keeps step → Keeps (pass host step)) → (e : Mouse) (to : Option ℕ) (step : Step) → Keeps step → Keeps (given pass e to step)
given_keeps pass passes e None step keeps = keeps
given_keeps pass passes e (Some serial) step keeps = by_test (is_host step.table serial) refl
  where
    by_test : (b : Bool) → is_host step.table serial ≡ b → Keeps (given pass e (Some serial) step)
    by_test true at = rw at (passes serial step keeps)
    by_test false at = rw at keeps

moused_keeps : (levels : ℕ) (e : Mouse) (host : ℕ) (step : Step) → Keeps step → Keeps (moused levels e host step)
unfolding moused
moused_keeps zero e host step keeps = keeps
moused_keeps (suc levels) e host step keeps =
    given_keeps (moused levels e) (moused_keeps levels e) e (receiver step.table e host (hold_of step.table host)) (reacted e host step) (reacted_keeps e host step keeps)

keyed_keeps : (to : Option ℕ) (keys : List (List ℕ)) (step : Step) → Keeps step → Keeps (keyed to keys step)
keyed_keeps None keys step keeps = keeps
keyed_keeps (Some serial) [] step keeps = keeps
keyed_keeps (Some serial) (key ∷ keys) step keeps = keyed_keeps (Some serial) keys (noted serial (note.Key key) step) keeps

-- ---- windows that move

replaced_keeps : (keep : Bool) (w : Window) (r : Rect) (step : Step) → Keeps step → Keeps (replaced keep w r step)
unfolding replaced
replaced_keeps keep w r step keeps = ordered_keeps (order.Replace w.serial w.host r (next_name step.table w) keep w.hidden) (with_windows (in_place (renewed r w)) step) tt keeps

abbrev Moves : (Window → Rect → Step → Outcome Step) → Type 0
Moves move = (w : Window) (r : Rect) (step out : Step) → Keeps step → move w r step ≡ Ok out → Keeps out

abbrev Changes : (Window → Step → Outcome Step) → Type 0
Changes change = (w : Window) (step out : Step) → Keeps step → change w step ≡ Ok out → Keeps out

carried_keeps : (move : Window → Rect → Step → Outcome Step) → Moves move → (by : Point) → Changes (carried move by)
carried_keeps move moves by w step out keeps e = by_test (is_near (shifted w.r by)) e
  where
    by_test : (b : Bool) → cond b (move w (shifted w.r by) step) (Err 47) ≡ Ok out → Keeps out
    by_test true e = moves w (shifted w.r by) step out keeps e
    by_test false e = absurd (let f : ◌≡◌ {A = Outcome Step} (Err 47) (Ok out) = e in cc)

each_keeps : (change : Window → Step → Outcome Step) → Changes change → (ws : List Window) (step out : Step) → Keeps step → each change ws step ≡ Ok out → Keeps out
each_keeps change changes [] step out keeps e = subst Keeps (same_Ok step out e) keeps
each_keeps change changes (w ∷ ws) step out keeps e =
    let first = then_ok (change w step) (each change ws) out e in
    each_keeps change changes ws first.0 out (changes w step first.0 keeps first.1) first.2

followed_keeps : (move : Window → Rect → Step → Outcome Step) → Moves move → (host : ℕ) (fill : Bool) (by : Point) (step out : Step) → Keeps step → followed move host fill by step ≡ Ok out → Keeps out
followed_keeps move moves host fill by step out keeps e = by_test (is_host step.table host) refl
  where
    by_test : (b : Bool) → is_host step.table host ≡ b → Keeps out
    by_test true at =
        let all : each (carried move by) (reverse (windows_in step.table host)) (ordered (order.Host host fill) step) ≡ Ok out = rw at at e in
        each_keeps (carried move by) (carried_keeps move moves by) (reverse (windows_in step.table host)) (ordered (order.Host host fill) step) out (ordered_keeps (order.Host host fill) step tt keeps) all
    by_test false at =
        let same : ◌≡◌ {A = Outcome Step} (Ok step) (Ok out) = rw at at e in
        subst Keeps (same_Ok step out same) keeps

moved_keeps : (levels : ℕ) (keep : Bool) → Moves (moved levels keep)
unfolding moved
moved_keeps zero keep w r step out keeps e = subst Keeps (same_Ok step out e) keeps
moved_keeps (suc levels) keep w r step out keeps e =
    followed_keeps (moved levels true) (moved_keeps levels true) w.serial (not keep) (way w.r r) (replaced keep w r step) out (replaced_keeps keep w r step keeps) e

-- ---- windows that go

dropped_keeps : (w : Window) (step : Step) → Keeps step → Keeps (dropped w step)
unfolding dropped
dropped_keeps w step keeps =
    ordered_keeps (order.Drop w.serial) (forgotten w.serial (retired w.host w.serial step)) tt (retired_keeps w.host w.serial step keeps)

all_keep : (levels : ℕ) → ((w : Window) (step : Step) → Keeps step → Keeps (deleted levels w step)) → (ws : List Window) (step : Step) → Keeps step → Keeps (fold (λ step v. deleted levels v step) step ws)
all_keep levels deletes [] step keeps = keeps
all_keep levels deletes (w ∷ ws) step keeps = all_keep levels deletes ws (deleted levels w step) (deletes w step keeps)

deleted_keeps : (levels : ℕ) (w : Window) (step : Step) → Keeps step → Keeps (deleted levels w step)
unfolding deleted
deleted_keeps zero w step keeps = keeps
deleted_keeps (suc levels) w step keeps =
    dropped_keeps w (fold (λ step v. deleted levels v step) step (made_in step.table w.serial)) (all_keep levels (deleted_keeps levels) (made_in step.table w.serial) step keeps)

-- ---- each act

new_in_keeps : (host : ℕ) (options : List Choice) (hide : Bool) (step out : Step) → Keeps step → new_in host options hide step ≡ Ok out → Keeps out
unfolding new_in
new_in_keeps host options hide step out keeps e =
    let home = value_ok (rio_of step.table host) 42 _ out e in
    let place = value_ok (applied false options (first_rectangle (rectangle_of step.table host))) 47 _ out home.2 in
    let room = refuse_ok (is_full step.table) 49 _ out place.2 in
    let w = new_window step.table host home.0.next hide place.0 in
    subst Keeps (same_Ok _ out room.1) (made_keeps w step keeps)

moved_by_keeps : (keep : Bool) (options : List Choice) (w : Window) (step out : Step) → Keeps step → moved_by keep options w step ≡ Ok out → Keeps out
unfolding moved_by
moved_by_keeps keep options w step out keeps e =
    let place = value_ok (applied keep options w.r) 47 _ out e in
    moved_keeps deepest keep w place.0 step out keeps place.2

resized_keeps : (width height : ℕ) (step out : Step) → Keeps step → resized width height step ≡ Ok out → Keeps out
unfolding resized
resized_keeps width height step out keeps e =
    let r = box (pos 0) (pos 0) (pos width) (pos height) in
    let next : Step = record step { table = record step.table { r = r } } in
    each_keeps (moved_by true to_corner) (moved_by_keeps true to_corner) (windows_off r step.table) (ordered (order.Size width height) next) out (ordered_keeps (order.Size width height) next tt keeps) e

hosted_keeps : (w : Window) (step out : Step) → Keeps step → hosted w step ≡ Ok out → Keeps out
unfolding hosted
hosted_keeps w step out keeps e =
    let free = refuse_ok (is_host step.table w.serial) 47 _ out e in
    let shallow = refuse_ok (nat_le 8 (length (path_of step.table w.host))) 50 _ out free.1 in
    subst Keeps (same_Ok _ out shallow.1) (ordered_keeps (order.Host w.serial true) step tt keeps)

done_keeps : (next out : Step) → Keeps next → ◌≡◌ {A = Outcome Step} (Ok next) (Ok out) → Keeps out
done_keeps next out keeps e = subst Keeps (same_Ok next out e) keeps

commanded_keeps : (what : Wctl) (w : Window) (step out : Step) → Keeps step → commanded what w step ≡ Ok out → Keeps out
commanded_keeps (wctl.New options hide) w step out keeps e = new_in_keeps w.host options hide step out keeps e
commanded_keeps (wctl.Resize options) w step out keeps e = moved_by_keeps false options w step out keeps e
commanded_keeps (wctl.Move options) w step out keeps e = moved_by_keeps true options w step out keeps e
commanded_keeps wctl.Top w step out keeps e = done_keeps (to_top w step) out (top_keeps w step keeps) e
commanded_keeps wctl.Bottom w step out keeps e = done_keeps (to_bottom w step) out (bottom_keeps w step keeps) e
commanded_keeps wctl.Hide w step out keeps e = done_keeps (hidden w step) out (hidden_keeps w step keeps) e
commanded_keeps wctl.Unhide w step out keeps e = done_keeps (shown w step) out (shown_keeps w step keeps) e
commanded_keeps wctl.Current w step out keeps e = done_keeps (made_current w step) out (made_current_keeps w step keeps) e
commanded_keeps wctl.Delete w step out keeps e = done_keeps (deleted deepest w step) out (deleted_keeps deepest w step keeps) e
commanded_keeps (wctl.Scroll scrolls) w step out keeps e = done_keeps step out keeps e
commanded_keeps wctl.Set w step out keeps e = done_keeps step out keeps e
commanded_keeps wctl.Host w step out keeps e = hosted_keeps w step out keeps e

command_to_keeps : (serial : ℕ) (what : Wctl) (step out : Step) → Keeps step → command_to serial what step ≡ Ok out → Keeps out
unfolding command_to
command_to_keeps serial what step out keeps e =
    let found = value_ok (window_of step.table serial) 42 _ out e in
    commanded_keeps what found.0 step out keeps found.2

pub acts_keep_connections : (table : Table) (a : Act) (out : Step) → rio table a ≡ Ok out → EndNoConnection out.orders
acts_keep_connections table (act.New host options hide) out e = new_in_keeps host options hide (begun table) out (begun_keeps table) e
acts_keep_connections table (act.Command window what) out e = command_to_keeps window what (begun table) out (begun_keeps table) e
acts_keep_connections table (act.Mouse pointer) out e = done_keeps (moused deepest pointer 0 (begun table)) out (moused_keeps deepest pointer 0 (begun table) (begun_keeps table)) e
acts_keep_connections table (act.Keys bytes) out e = done_keeps (keyed (focus deepest table 0) (keys_of bytes) (begun table)) out (keyed_keeps (focus deepest table 0) (keys_of bytes) (begun table) (begun_keeps table)) e
acts_keep_connections table (act.Gone window) out e = command_to_keeps window wctl.Delete (begun table) out (begun_keeps table) e
acts_keep_connections table (act.Size width height) out e = resized_keeps width height (begun table) out (begun_keeps table) e
