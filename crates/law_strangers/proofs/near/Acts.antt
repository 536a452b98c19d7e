-- Each rectangle of which an act tells a window is near.
use Rattle.std.proofs.Common.{◌≡◌, ◌^◌, ℕ, ℤ, pos, neg_ℤ, ◌-ℤ◌, ◌≤ℤ◌, int_le, zero, suc, ◌==◌, Bool, true, false, cond, ◌&&◌, not, List, [], ◌∷◌, ◌++◌, fold, reverse, length, nat_le, Option, Some, None, Ok, Err, All, refl, subst, arith}
use Rattle.std.proofs.lemmas.Bool.{and_parts, cond_both}
use Rattle.std.proofs.lemmas.Int.{ints}
use Rattle.std.proofs.lemmas.List.Elements.{All-nil, All-push}
use Rattle.r9_geom.specs.declared.Rect.{Rect}
use Rattle.r9_geom.specs.declared.Point.{Point}
use Rattle.r9_geom.specs.Geometry.{shifted, IsRectNear}
use Rattle.r9_event.specs.window.Ways.{way}
use Rattle.r9_event.specs.declared.event.rio.Note.{Note}
use Rattle.r9_event.specs.declared.event.rio.Note.TheVariants as note
use Rattle.r9_event.specs.declared.event.rio.Order.TheVariants as order
use Rattle.model_text.specs.text.Outcome.{Outcome}
use Rattle.model_files.specs.declared.mouse.Mouse.{Mouse}
use Rattle.model_files.specs.declared.wctl.Choice.{Choice}
use Rattle.model_files.specs.wctl.Command.{Wctl}
use Rattle.model_files.specs.wctl.Command as wctl
use Rattle.model_files.specs.wctl.Rectangle.{after_choice, applied, box, is_coordinate, is_near, is_side, is_window}
use Rattle.model_rio.specs.rio.Table.{Window, Table, Hold, Free, Held, Nobody, rio_of, window_of, path_of, name_by, rectangle_of, is_host, windows_in, made_in, deepest, current_of, hold_of, topmost}
use Rattle.model_rio.specs.rio.Act.{Act}
use Rattle.model_rio.specs.rio.Act as act
use Rattle.model_rio.specs.rio.Step.{Step, begun, ordered, noted, with_rio, with_hold, with_windows, with_current, told_current, in_place, is_same, is_held, not_current, retired}
use Rattle.model_rio.specs.rio.Moving.{next_name, renewed, replaced, each, carried, followed, moved, forgotten, dropped, deleted}
use Rattle.model_rio.specs.rio.Routing.{moused, reacted, given, pressed, point_of, receiver, focus, keyed, keys_of}
use Rattle.model_rio.specs.rio.Rio.{is_full, new_window, entered, made, new_in, first_rectangle, hidden, shown, to_top, to_bottom, made_current, hosted, moved_by, windows_off, to_corner, resized, commanded, command_to, outside, rio}
use Rattle.law_shown.proofs.shown.Tests.{refuse_ok, same_Ok, then_ok, value_ok}
use Rattle.law_strangers.specs.near.Near.{IsNearNote}

-- a note with the serial of its window
abbrev pub IsNearTold : ℕ × Note → Type 0
IsNearTold told = IsNearNote told.1

-- each rectangle of which a step tells is near
abbrev Tells : Step → Type 0
Tells step = All IsNearTold step.notes

noted_tells : (serial : ℕ) (n : Note) (step : Step) → IsNearNote n → Tells step → Tells (noted serial n step)
noted_tells serial n step near tells = All-push IsNearTold step.notes (serial, n) tells near

-- ---- rectangles that a window may have

at_least : (a b : ℤ) → int_le a b ≡ true → a ≤ℤ b
at_least a b h = grind (arith, ints)

-- a coordinate of a window is near
record IsNearNumber (x : ℤ) : Type 0 where
  low : neg_ℤ (pos (2 ^ 40)) ≤ℤ x
  high : x ≤ℤ pos (2 ^ 40)

near_number : (x : ℤ) → is_coordinate x ≡ true → IsNearNumber x
near_number x h =
    let both = and_parts (int_le (neg_ℤ (pos 1048576)) x) (int_le x (pos 1048576)) h in
    let low = at_least (neg_ℤ (pos 1048576)) x both.0 in
    let high = at_least x (pos 1048576) both.1 in
    record { low = omega (arith, ints, low); high = omega (arith, ints, high) }

near_rect : (r : Rect) → is_near r ≡ true → IsRectNear r
near_rect r h =
    let three = and_parts (is_coordinate r.min.x && is_coordinate r.min.y && is_coordinate r.max.x) (is_coordinate r.max.y) h in
    let two = and_parts (is_coordinate r.min.x && is_coordinate r.min.y) (is_coordinate r.max.x) three.0 in
    let one = and_parts (is_coordinate r.min.x) (is_coordinate r.min.y) two.0 in
    let left = near_number r.min.x one.0 in
    let top = near_number r.min.y one.1 in
    let right = near_number r.max.x two.1 in
    let bottom = near_number r.max.y three.1 in
    record {
      min = record { left = left.low; right = left.high; top = top.low; bottom = top.high };
      max = record { left = right.low; right = right.high; top = bottom.low; bottom = bottom.high };
    }

-- so is what options make of a rectangle
near_applied : (moves : Bool) (options : List Choice) (start r : Rect) → applied moves options start ≡ Some r → IsRectNear r
unfolding applied
near_applied moves options start r e = by (is_window other) refl e
  where
    other : Rect
    other = fold (after_choice moves) start options

    by : (b : Bool) → is_window other ≡ b → ◌≡◌ {A = Option Rect} (cond b (Some other) None) (Some r) → IsRectNear r
    by true fits e =
        let same : other ≡ r = cc in
        subst IsRectNear same (near_rect other (and_parts (is_side (other.max.x -ℤ other.min.x) && is_side (other.max.y -ℤ other.min.y)) (is_near other) fits).1)
    by false fits e = absurd cc

-- ---- the current window

current_told : (o : Option ℕ) (is : Bool) (step : Step) → Tells step → Tells (told_current o is step)
current_told None is step tells = tells
current_told (Some serial) is step tells = noted_tells serial (note.Current is) step tt tells

current_tells : (host : ℕ) (new : Option ℕ) (step : Step) → Tells step → Tells (with_current host new step)
unfolding with_current
current_tells host new step tells =
    let old = current_of step.table host in
    let next : Step = with_rio host (λ rio. record rio { current = new }) step in
    cond_both (is_same old new) step (told_current new true (told_current old false next)) Tells (λ _. tells)
    (λ _. current_told new true (told_current old false next) (current_told old false next tells))

retired_tells : (host serial : ℕ) (step : Step) → Tells step → Tells (retired host serial step)
unfolding retired
retired_tells host serial step tells =
    let idle = not_current host serial step in
    let then : Tells idle = cond_both (is_same (current_of step.table host) (Some serial)) (with_current host None step) step Tells (λ _. current_tells host None step tells) (λ _. tells) in
    cond_both (is_held serial (hold_of idle.table host)) (with_hold host Nobody idle) idle Tells (λ _. then) (λ _. then)

-- ---- windows that are made, hidden and shown

made_tells : (w : Window) (step : Step) → IsRectNear w.r → Tells step → Tells (made w step)
unfolding made
made_tells w step near tells =
    let path = path_of step.table w.host ++ w.number ∷ [] in
    let name = name_by path w.generation in
    let there : Step = noted w.serial (note.Made w.number w.serial name w.r (length path)) (ordered (order.Make w.serial w.host w.r name w.hidden (length path)) (entered w step)) in
    let then : Tells there = noted_tells w.serial (note.Made w.number w.serial name w.r (length path)) (ordered (order.Make w.serial w.host w.r name w.hidden (length path)) (entered w step)) near tells in
    cond_both w.hidden (noted w.serial (note.Hidden true) there) (with_current w.host (Some w.serial) there) Tells
    (λ _. noted_tells w.serial (note.Hidden true) there tt then) (λ _. current_tells w.host (Some w.serial) there then)

hidden_tells : (w : Window) (step : Step) → Tells step → Tells (hidden w step)
unfolding hidden
hidden_tells w step tells =
    let before : Step = ordered (order.Place w.serial outside) (with_windows (in_place (record w { hidden = true })) step) in
    let there : Step = noted w.serial (note.Hidden true) before in
    cond_both w.hidden step (retired w.host w.serial there) Tells (λ _. tells)
    (λ _. retired_tells w.host w.serial there (noted_tells w.serial (note.Hidden true) before tt tells))

shown_tells : (w : Window) (step : Step) → Tells step → Tells (shown w step)
unfolding shown
shown_tells w step tells =
    let before : Step = ordered (order.Place w.serial w.r.min) step in
    let there : Step = noted w.serial (note.Hidden false) before in
    let up : Step = to_top (record w { hidden = false }) there in
    cond_both w.hidden (with_current w.host (Some w.serial) up) step Tells
    (λ _. current_tells w.host (Some w.serial) up (noted_tells w.serial (note.Hidden false) before tt tells)) (λ _. tells)

made_current_tells : (w : Window) (step : Step) → Tells step → Tells (made_current w step)
made_current_tells w step tells =
    cond_both w.hidden (shown w step) (with_current w.host (Some w.serial) step) Tells (λ _. shown_tells w step tells) (λ _. current_tells w.host (Some w.serial) step tells)

-- ---- input

pressed_tells : (host : ℕ) (top : Option Window) (step : Step) → Tells step → Tells (pressed host top step)
pressed_tells host None step tells = tells
pressed_tells host (Some w) step tells = current_tells host (Some w.serial) (to_top w step) tells

reacted_tells : (e : Mouse) (host : ℕ) (step : Step) → Tells step → Tells (reacted e host step)
unfolding reacted
reacted_tells e host step tells = by_hold (hold_of step.table host) (e.buttons == 0) refl refl
  where
    by_hold : (hold : Hold) (released : Bool) → hold_of step.table host ≡ hold → (e.buttons == 0) ≡ released → Tells (reacted e host step)
    by_hold Free true at up = rw (at, up) tells
    by_hold Free false at up = rw (at, up) (pressed_tells host (topmost step.table host (point_of e)) step tells)
    by_hold (Held serial) true at up = rw (at, up) tells
    by_hold Nobody true at up = rw (at, up) tells
    by_hold (Held serial) false at up = rw (at, up) tells
    by_hold Nobody false at up = rw (at, up) tells

given_tells : (pass : ℕ → Step → Step) → ((host : ℕ) (step : Step) → Tells step → Tells (pass host step)) → (e : Mouse) (to : Option ℕ) (step : Step) → Tells step → Tells (given pass e to step)
given_tells pass passes e None step tells = tells
given_tells pass passes e (Some serial) step tells = by_test (is_host step.table serial) refl
  where
    by_test : (b : Bool) → is_host step.table serial ≡ b → Tells (given pass e (Some serial) step)
    by_test true at = rw at (passes serial step tells)
    by_test false at = rw at (noted_tells serial (note.Mouse e.x e.y e.buttons e.msec) step tt tells)

moused_tells : (levels : ℕ) (e : Mouse) (host : ℕ) (step : Step) → Tells step → Tells (moused levels e host step)
unfolding moused
moused_tells zero e host step tells = tells
moused_tells (suc levels) e host step tells =
    given_tells (moused levels e) (moused_tells levels e) e (receiver step.table e host (hold_of step.table host)) (reacted e host step) (reacted_tells e host step tells)

keyed_tells : (to : Option ℕ) (keys : List (List ℕ)) (step : Step) → Tells step → Tells (keyed to keys step)
keyed_tells None keys step tells = tells
keyed_tells (Some serial) [] step tells = tells
keyed_tells (Some serial) (key ∷ keys) step tells = keyed_tells (Some serial) keys (noted serial (note.Key key) step) (noted_tells serial (note.Key key) step tt tells)

-- ---- windows that move

replaced_tells : (keep : Bool) (w : Window) (r : Rect) (step : Step) → IsRectNear r → Tells step → Tells (replaced keep w r step)
unfolding replaced
replaced_tells true w r step near tells =
    noted_tells w.serial (note.Moved (next_name step.table w) r) (ordered (order.Replace w.serial w.host r (next_name step.table w) true w.hidden) (with_windows (in_place (renewed r w)) step)) near tells
replaced_tells false w r step near tells =
    noted_tells w.serial (note.Resized (next_name step.table w) r) (ordered (order.Replace w.serial w.host r (next_name step.table w) false w.hidden) (with_windows (in_place (renewed r w)) step)) near tells

abbrev Moves : (Window → Rect → Step → Outcome Step) → Type 0
Moves move = (w : Window) (r : Rect) (step out : Step) → IsRectNear r → Tells step → move w r step ≡ Ok out → Tells out

abbrev Changes : (Window → Step → Outcome Step) → Type 0
Changes change = (w : Window) (step out : Step) → Tells step → change w step ≡ Ok out → Tells out

carried_tells : (move : Window → Rect → Step → Outcome Step) → Moves move → (by : Point) → Changes (carried move by)
carried_tells move moves by w step out tells e = by_test (is_near (shifted w.r by)) refl e
  where
    by_test : (b : Bool) → is_near (shifted w.r by) ≡ b → cond b (move w (shifted w.r by) step) (Err 47) ≡ Ok out → Tells out
    by_test true near e = moves w (shifted w.r by) step out (near_rect (shifted w.r by) near) tells e
    by_test false near e = absurd (let f : ◌≡◌ {A = Outcome Step} (Err 47) (Ok out) = e in cc)

each_tells : (change : Window → Step → Outcome Step) → Changes change → (ws : List Window) (step out : Step) → Tells step → each change ws step ≡ Ok out → Tells out
each_tells change changes [] step out tells e = subst Tells (same_Ok step out e) tells
each_tells change changes (w ∷ ws) step out tells e =
    let first = then_ok (change w step) (each change ws) out e in
    each_tells change changes ws first.0 out (changes w step first.0 tells first.1) first.2

followed_tells : (move : Window → Rect → Step → Outcome Step) → Moves move → (host : ℕ) (fill : Bool) (by : Point) (step out : Step) → Tells step → followed move host fill by step ≡ Ok out → Tells out
followed_tells move moves host fill by step out tells e = by_test (is_host step.table host) refl
  where
    by_test : (b : Bool) → is_host step.table host ≡ b → Tells out
    by_test true at =
        let all : each (carried move by) (reverse (windows_in step.table host)) (ordered (order.Host host fill) step) ≡ Ok out = rw at at e in
        each_tells (carried move by) (carried_tells move moves by) (reverse (windows_in step.table host)) (ordered (order.Host host fill) step) out tells all
    by_test false at =
        let same : ◌≡◌ {A = Outcome Step} (Ok step) (Ok out) = rw at at e in
        subst Tells (same_Ok step out same) tells

moved_tells : (levels : ℕ) (keep : Bool) → Moves (moved levels keep)
unfolding moved
moved_tells zero keep w r step out near tells e = subst Tells (same_Ok step out e) tells
moved_tells (suc levels) keep w r step out near tells e =
    followed_tells (moved levels true) (moved_tells levels true) w.serial (not keep) (way w.r r) (replaced keep w r step) out (replaced_tells keep w r step near tells) e

-- ---- windows that go

dropped_tells : (w : Window) (step : Step) → Tells step → Tells (dropped w step)
unfolding dropped
dropped_tells w step tells =
    noted_tells w.serial note.Deleted (ordered (order.Drop w.serial) (forgotten w.serial (retired w.host w.serial step))) tt (retired_tells w.host w.serial step tells)

all_tell : (levels : ℕ) → ((w : Window) (step : Step) → Tells step → Tells (deleted levels w step)) → (ws : List Window) (step : Step) → Tells step → Tells (fold (λ step v. deleted levels v step) step ws)
all_tell levels deletes [] step tells = tells
all_tell levels deletes (w ∷ ws) step tells = all_tell levels deletes ws (deleted levels w step) (deletes w step tells)

deleted_tells : (levels : ℕ) (w : Window) (step : Step) → Tells step → Tells (deleted levels w step)
unfolding deleted
deleted_tells zero w step tells = tells
deleted_tells (suc levels) w step tells =
    dropped_tells w (fold (λ step v. deleted levels v step) step (made_in step.table w.serial)) (all_tell levels (deleted_tells levels) (made_in step.table w.serial) step tells)

-- ---- each act

new_in_tells : (host : ℕ) (options : List Choice) (hide : Bool) (step out : Step) → Tells step → new_in host options hide step ≡ Ok out → Tells out
unfolding new_in
new_in_tells host options hide step out tells e =
    let home = value_ok (rio_of step.table host) 42 _ out e in
    let place = value_ok (applied false options (first_rectangle (rectangle_of step.table host))) 47 _ out home.2 in
    let room = refuse_ok (is_full step.table) 49 _ out place.2 in
    let w = new_window step.table host home.0.next hide place.0 in
    subst Tells (same_Ok _ out room.1) (made_tells w step (near_applied false options (first_rectangle (rectangle_of step.table host)) place.0 place.1) tells)

moved_by_tells : (keep : Bool) (options : List Choice) (w : Window) (step out : Step) → Tells step → moved_by keep options w step ≡ Ok out → Tells out
unfolding moved_by
moved_by_tells keep options w step out tells e =
    let place = value_ok (applied keep options w.r) 47 _ out e in
    moved_tells deepest keep w place.0 step out (near_applied keep options w.r place.0 place.1) tells place.2

resized_tells : (width height : ℕ) (step out : Step) → Tells step → resized width height step ≡ Ok out → Tells out
unfolding resized
resized_tells width height step out tells e =
    let r = box (pos 0) (pos 0) (pos width) (pos height) in
    each_tells (moved_by true to_corner) (moved_by_tells true to_corner) (windows_off r step.table) (ordered (order.Size width height) (record step { table = record step.table { r = r } })) out tells e

hosted_tells : (w : Window) (step out : Step) → Tells step → hosted w step ≡ Ok out → Tells out
unfolding hosted
hosted_tells w step out tells e =
    let free = refuse_ok (is_host step.table w.serial) 47 _ out e in
    let shallow = refuse_ok (nat_le 8 (length (path_of step.table w.host))) 50 _ out free.1 in
    subst Tells (same_Ok _ out shallow.1) tells

done_tells : (next out : Step) → Tells next → ◌≡◌ {A = Outcome Step} (Ok next) (Ok out) → Tells out
done_tells next out tells e = subst Tells (same_Ok next out e) tells

commanded_tells : (what : Wctl) (w : Window) (step out : Step) → Tells step → commanded what w step ≡ Ok out → Tells out
commanded_tells (wctl.New options hide) w step out tells e = new_in_tells w.host options hide step out tells e
commanded_tells (wctl.Resize options) w step out tells e = moved_by_tells false options w step out tells e
commanded_tells (wctl.Move options) w step out tells e = moved_by_tells true options w step out tells e
commanded_tells wctl.Top w step out tells e = done_tells (to_top w step) out tells e
commanded_tells wctl.Bottom w step out tells e = done_tells (to_bottom w step) out tells e
commanded_tells wctl.Hide w step out tells e = done_tells (hidden w step) out (hidden_tells w step tells) e
commanded_tells wctl.Unhide w step out tells e = done_tells (shown w step) out (shown_tells w step tells) e
commanded_tells wctl.Current w step out tells e = done_tells (made_current w step) out (made_current_tells w step tells) e
commanded_tells wctl.Delete w step out tells e = done_tells (deleted deepest w step) out (deleted_tells deepest w step tells) e
commanded_tells (wctl.Scroll scrolls) w step out tells e = done_tells step out tells e
commanded_tells wctl.Set w step out tells e = done_tells step out tells e
commanded_tells wctl.Host w step out tells e = hosted_tells w step out tells e

command_to_tells : (serial : ℕ) (what : Wctl) (step out : Step) → Tells step → command_to serial what step ≡ Ok out → Tells out
unfolding command_to
command_to_tells serial what step out tells e =
    let found = value_ok (window_of step.table serial) 42 _ out e in
    commanded_tells what found.0 step out tells found.2

begun_tells : (table : Table) → Tells (begun table)
begun_tells table = All-nil IsNearTold

-- Of each act that is not refused, whatever the table.
pub acts_tell_near : (table : Table) (a : Act) (out : Step) → rio table a ≡ Ok out → All IsNearTold out.notes
acts_tell_near table (act.New host options hide) out e = new_in_tells host options hide (begun table) out (begun_tells table) e
acts_tell_near table (act.Command window what) out e = command_to_tells window what (begun table) out (begun_tells table) e
acts_tell_near table (act.Mouse pointer) out e = done_tells (moused deepest pointer 0 (begun table)) out (moused_tells deepest pointer 0 (begun table) (begun_tells table)) e
acts_tell_near table (act.Keys bytes) out e = done_tells (keyed (focus deepest table 0) (keys_of bytes) (begun table)) out (keyed_tells (focus deepest table 0) (keys_of bytes) (begun table) (begun_tells table)) e
acts_tell_near table (act.Gone window) out e = command_to_tells window wctl.Delete (begun table) out (begun_tells table) e
acts_tell_near table (act.Size width height) out e = resized_tells width height (begun table) out (begun_tells table) e
