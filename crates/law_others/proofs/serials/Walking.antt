-- What holds of the windows, of those that rios know, and of the notes, holds after each act.
use Rattle.std.proofs.Common.{◌≡◌, ℕ, zero, suc, pos, ◌==◌, ◌<◌, ◌≤◌, Bool, true, false, cond, List, [], ◌∷◌, ◌++◌, fold, reverse, length, nat_le, Option, Some, None, Ok, Err, refl, subst, arith}
use Rattle.std.specs.Prelude.{IfSome, filter, not, if◌then◌else◌}
use Rattle.std.specs.Option.{option_and_then, option_map, option_map_or}
use Rattle.std.proofs.lemmas.Bool.{cond_both}
use Rattle.std.proofs.lemmas.List.Sorted.{All-permutation, IsPermutation-reverse}
use Rattle.r9_geom.specs.declared.Rect.{Rect}
use Rattle.r9_geom.specs.declared.Point.{Point}
use Rattle.r9_geom.specs.Geometry.{is_empty, meet, shifted}
use Rattle.r9_event.specs.window.Ways.{way}
use Rattle.r9_event.specs.declared.event.rio.Note.{Note}
use Rattle.r9_event.specs.declared.event.rio.Note.TheVariants as note
use Rattle.r9_event.specs.declared.event.rio.Order.{Order}
use Rattle.r9_event.specs.declared.event.rio.Order.TheVariants as order
use Rattle.model_text.specs.text.Outcome.{Outcome}
use Rattle.model_files.specs.declared.mouse.Mouse.{Mouse}
use Rattle.model_files.specs.declared.wctl.Choice.{Choice}
use Rattle.model_files.specs.wctl.Command.{Wctl}
use Rattle.model_files.specs.wctl.Command as wctl
use Rattle.model_files.specs.wctl.Rectangle.{applied, box, is_near}
use Rattle.model_rio.specs.rio.Table.{Window, Rio, Table, Hold, Free, Held, Nobody, current_of, deepest, hold_of, is_host, made_in, name_by, no_windows, path_of, rectangle_of, rio_of, topmost, window_of, windows_in}
use Rattle.model_rio.specs.rio.Act.{Act}
use Rattle.model_rio.specs.rio.Act as act
use Rattle.model_rio.specs.rio.Step.{Step, begun, changed, in_place, is_held, is_same, lowered, not_current, noted, ordered, raised, retired, told_current, with_current, with_hold, with_rio, with_windows}
use Rattle.model_rio.specs.rio.Moving.{carried, deleted, dropped, each, followed, forgotten, moved, next_name, renewed, replaced}
use Rattle.model_rio.specs.rio.Routing.{focus, given, keyed, keys_of, moused, point_of, pressed, reacted, receiver}
use Rattle.model_rio.specs.rio.Rio.{command_to, commanded, entered, first_rectangle, hidden, hosted, is_full, made, made_current, moved_by, new_in, new_window, next_number, outside, resized, rio, shown, to_bottom, to_corner, to_top, windows_off}
use Rattle.model_rio.specs.rio.Sound.{IfHeld}
use Rattle.law_shown.proofs.shown.Tests.{refuse_ok, same_Ok, then_ok, value_ok}
use Rattle.law_shown.proofs.fitting.Lists.{Each, all_of, each_append, each_filter, each_found, each_map, each_of, fold_each}
use Rattle.law_shown.proofs.fitting.Stepping.{each_in_place, each_lowered, each_raised}

-- a note that does not end its window
abbrev pub IsLasting : Note → Type 0
IsLasting note.Deleted = ⊥
IsLasting _ = Unit {0}

-- the act deletes a window
abbrev pub deletes : Act → Bool
deletes (act.Command window wctl.Delete) = true
deletes (act.Gone window) = true
deletes _ = false

-- `Has`: of the serials of windows. `Tells`: of notes, with the serials of their windows.
module _ (Has : ℕ → Type 0) (Tells : ℕ → Note → Type 0) (least : ℕ) (fair : (serial : ℕ) (n : Note) → IsLasting n → Has serial → Tells serial n) (anew : (serial : ℕ) → least < serial → Has serial) where
  abbrev pub HasWindow : Window → Type 0
  HasWindow v = Has v.serial

  -- so of the window that is current in a rio, and of the one that holds the mouse
  pub record Knows (rio : Rio) : Type 0 where
    pub current : IfSome rio.current Has
    pub hold : IfHeld rio.hold Has

  -- so of a step, which gave so many serials at least
  pub record IsAt (step : Step) : Type 0 where
    pub windows : Each HasWindow step.table.windows
    pub rios : Each Knows (step.table.root ∷ step.table.rios)
    pub notes : Each (λ told. Tells told.0 told.1) step.notes
    pub serials : least ≤ step.table.serials

  -- ---- notes and rios

  noted_at : (serial : ℕ) (n : Note) (step : Step) → Tells serial n → IsAt step → IsAt (noted serial n step)
  noted_at serial n step tells is = record { windows = is.windows; rios = is.rios; notes = each_append (λ (told : ℕ × Note). Tells told.0 told.1) step.notes ((serial, n) ∷ []) is.notes (tells, tt); serials = is.serials }

  ordered_at : (o : Order) (step : Step) → IsAt step → IsAt (ordered o step)
  ordered_at o step is = record { windows = is.windows; rios = is.rios; notes = is.notes; serials = is.serials }

  windows_at : (change : List Window → List Window) (step : Step) → Each HasWindow (change step.table.windows) → IsAt step → IsAt (with_windows change step)
  windows_at change step windows is = record { windows = windows; rios = is.rios; notes = is.notes; serials = is.serials }

  rio_at : (host : ℕ) (change : Rio → Rio) → ((rio : Rio) → Knows rio → Knows (change rio)) → (step : Step) → IsAt step → IsAt (with_rio host change step)
  rio_at host change knows step is = record { windows = is.windows; rios = each_map Knows Knows (changed host change) one (step.table.root ∷ step.table.rios) is.rios; notes = is.notes; serials = is.serials }
    where
      one : (rio : Rio) → Knows rio → Knows (changed host change rio)
      one rio was = cond_both (rio.host == host) (change rio) rio Knows (λ _. knows rio was) (λ _. was)

  -- what a rio of a step knows
  found_knows : (host : ℕ) (step : Step) → IsAt step → IfSome (rio_of step.table host) Knows
  found_knows host step is = by (rio_of step.table host) refl
    where
      by : (o : Option Rio) → rio_of step.table host ≡ o → IfSome o Knows
      by None at = tt
      by (Some rio) at = each_found Knows (λ (r : Rio). r.host == host) (step.table.root ∷ step.table.rios) rio is.rios at

  current_has : (host : ℕ) (step : Step) → IsAt step → IfSome (current_of step.table host) Has
  current_has host step is = by (rio_of step.table host) (found_knows host step is)
    where
      by : (o : Option Rio) → IfSome o Knows → IfSome (option_and_then (λ rio. rio.current) o) Has
      by None knows = tt
      by (Some rio) knows = knows.current

  hold_has : (host : ℕ) (step : Step) → IsAt step → IfHeld (hold_of step.table host) Has
  hold_has host step is = by (rio_of step.table host) (found_knows host step is)
    where
      by : (o : Option Rio) → IfSome o Knows → IfHeld (option_map_or (λ r. r.hold) o Free) Has
      by None knows = tt
      by (Some rio) knows = knows.hold

  hold_at : (host : ℕ) (hold : Hold) (step : Step) → IfHeld hold Has → IsAt step → IsAt (with_hold host hold step)
  hold_at host hold step has is = rio_at host (λ rio. record rio { hold = hold }) (λ rio was. record { current = was.current; hold = has }) step is

  told_at : (o : Option ℕ) (current : Bool) (step : Step) → IfSome o Has → IsAt step → IsAt (told_current o current step)
  told_at None current step has is = is
  told_at (Some serial) current step has is = noted_at serial (note.Current current) step (fair serial (note.Current current) tt has) is

  current_at : (host : ℕ) (new : Option ℕ) (step : Step) → IfSome new Has → IsAt step → IsAt (with_current host new step)
  unfolding with_current
  current_at host new step has is =
      let old = current_of step.table host in
      let next : Step = with_rio host (λ rio. record rio { current = new }) step in
      cond_both (is_same old new) step (told_current new true (told_current old false next)) IsAt (λ _. is)
      (λ _. told_at new true (told_current old false next) has
      (told_at old false next (current_has host step is) (rio_at host (λ rio. record rio { current = new }) (λ rio was. record { current = has; hold = was.hold }) step is)))

  retired_at : (host serial : ℕ) (step : Step) → IsAt step → IsAt (retired host serial step)
  unfolding retired
  retired_at host serial step is =
      let idle = not_current host serial step in
      let left : IsAt idle = cond_both (is_same (current_of step.table host) (Some serial)) (with_current host None step) step IsAt (λ _. current_at host None step tt is) (λ _. is) in
      cond_both (is_held serial (hold_of idle.table host)) (with_hold host Nobody idle) idle IsAt (λ _. hold_at host Nobody idle tt left) (λ _. left)

  -- ---- windows that are raised, lowered, hidden and shown

  top_at : (v : Window) (step : Step) → Has v.serial → IsAt step → IsAt (to_top v step)
  top_at v step has is = ordered_at (order.Raise v.serial) (with_windows (raised v) step) (windows_at (raised v) step (each_raised HasWindow v step.table.windows has is.windows) is)

  bottom_at : (v : Window) (step : Step) → Has v.serial → IsAt step → IsAt (to_bottom v step)
  bottom_at v step has is = ordered_at (order.Lower v.serial) (with_windows (lowered v) step) (windows_at (lowered v) step (each_lowered HasWindow v step.table.windows has is.windows) is)

  hidden_at : (v : Window) (step : Step) → Has v.serial → IsAt step → IsAt (hidden v step)
  unfolding hidden
  hidden_at v step has is =
      let away : Window = record v { hidden = true } in
      let placed : Step = with_windows (in_place away) step in
      let there : Step = noted v.serial (note.Hidden true) (ordered (order.Place v.serial outside) placed) in
      cond_both v.hidden step (retired v.host v.serial there) IsAt (λ _. is)
      (λ _. retired_at v.host v.serial there
      (noted_at v.serial (note.Hidden true) (ordered (order.Place v.serial outside) placed) (fair v.serial (note.Hidden true) tt has)
      (ordered_at (order.Place v.serial outside) placed (windows_at (in_place away) step (each_in_place HasWindow away step.table.windows has is.windows) is))))

  shown_at : (v : Window) (step : Step) → Has v.serial → IsAt step → IsAt (shown v step)
  unfolding shown
  shown_at v step has is =
      let back : Window = record v { hidden = false } in
      let there : Step = noted v.serial (note.Hidden false) (ordered (order.Place v.serial v.r.min) step) in
      cond_both v.hidden (with_current v.host (Some v.serial) (to_top back there)) step IsAt
      (λ _. current_at v.host (Some v.serial) (to_top back there) has
      (top_at back there has (noted_at v.serial (note.Hidden false) (ordered (order.Place v.serial v.r.min) step) (fair v.serial (note.Hidden false) tt has) (ordered_at (order.Place v.serial v.r.min) step is))))
      (λ _. is)

  made_current_at : (v : Window) (step : Step) → Has v.serial → IsAt step → IsAt (made_current v step)
  made_current_at v step has is =
      cond_both v.hidden (shown v step) (with_current v.host (Some v.serial) step) IsAt (λ _. shown_at v step has is) (λ _. current_at v.host (Some v.serial) step has is)

  -- ---- the mouse and the keys

  topmost_has : (host : ℕ) (p : Point) (step : Step) → IsAt step → IfSome (topmost step.table host p) HasWindow
  topmost_has host p step is = by (topmost step.table host p) refl
    where
      by : (o : Option Window) → topmost step.table host p ≡ o → IfSome o HasWindow
      by None at = tt
      by (Some v) at = each_found HasWindow _ step.table.windows v is.windows at

  pressed_at : (host : ℕ) (top : Option Window) (step : Step) → IfSome top HasWindow → IsAt step → IsAt (pressed host top step)
  pressed_at host None step has is = hold_at host Nobody step tt is
  pressed_at host (Some v) step has is =
      hold_at host (Held v.serial) (with_current host (Some v.serial) (to_top v step)) has (current_at host (Some v.serial) (to_top v step) has (top_at v step has is))

  reacted_at : (e : Mouse) (host : ℕ) (step : Step) → IsAt step → IsAt (reacted e host step)
  unfolding reacted
  reacted_at e host step is = by_hold (hold_of step.table host) (e.buttons == 0) refl refl
    where
      by_hold : (hold : Hold) (released : Bool) → hold_of step.table host ≡ hold → (e.buttons == 0) ≡ released → IsAt (reacted e host step)
      by_hold Free true at up = rw (at, up) is
      by_hold Free false at up = rw (at, up) (pressed_at host (topmost step.table host (point_of e)) step (topmost_has host (point_of e) step is) is)
      by_hold (Held serial) true at up = rw (at, up) (hold_at host Free step tt is)
      by_hold Nobody true at up = rw (at, up) (hold_at host Free step tt is)
      by_hold (Held serial) false at up = rw (at, up) is
      by_hold Nobody false at up = rw (at, up) is

  serial_has : (o : Option Window) → IfSome o HasWindow → IfSome (option_map (λ w. w.serial) o) Has
  serial_has None has = tt
  serial_has (Some v) has = has

  receiver_has : (e : Mouse) (host : ℕ) (hold : Hold) (step : Step) → IfHeld hold Has → IsAt step → IfSome (receiver step.table e host hold) Has
  receiver_has e host (Held serial) step has is = has
  receiver_has e host Nobody step has is = tt
  receiver_has e host Free step has is =
      let top = option_map (λ (w : Window). w.serial) (topmost step.table host (point_of e)) in
      let there : IfSome top Has = serial_has (topmost step.table host (point_of e)) (topmost_has host (point_of e) step is) in
      cond_both (e.buttons == 0) (if is_same (current_of step.table host) top then top else None) top (λ (o : Option ℕ). IfSome o Has)
      (λ _. cond_both (is_same (current_of step.table host) top) top None (λ (o : Option ℕ). IfSome o Has) (λ _. there) (λ _. tt)) (λ _. there)

  given_at : (pass : ℕ → Step → Step) → ((host : ℕ) (step : Step) → IsAt step → IsAt (pass host step)) → (e : Mouse) (to : Option ℕ) (step : Step) → IfSome to Has → IsAt step → IsAt (given pass e to step)
  given_at pass passes e None step has is = is
  given_at pass passes e (Some serial) step has is = by_test (is_host step.table serial) refl
    where
      by_test : (b : Bool) → is_host step.table serial ≡ b → IsAt (given pass e (Some serial) step)
      by_test true at = rw at (passes serial step is)
      by_test false at = rw at (noted_at serial (note.Mouse e.x e.y e.buttons e.msec) step (fair serial (note.Mouse e.x e.y e.buttons e.msec) tt has) is)

  moused_at : (levels : ℕ) (e : Mouse) (host : ℕ) (step : Step) → IsAt step → IsAt (moused levels e host step)
  unfolding moused
  moused_at zero e host step is = is
  moused_at (suc levels) e host step is =
      given_at (moused levels e) (moused_at levels e) e (receiver step.table e host (hold_of step.table host)) (reacted e host step) (receiver_has e host (hold_of step.table host) step (hold_has host step is) is) (reacted_at e host step is)

  focus_has : (levels host : ℕ) (step : Step) → IsAt step → IfSome (focus levels step.table host) Has
  unfolding focus
  focus_has zero host step is = tt
  focus_has (suc levels) host step is = by (λ serial. focus_has levels serial step is) (current_of step.table host) (current_has host step is)
    where
      by : ((serial : ℕ) → IfSome (focus levels step.table serial) Has) → (o : Option ℕ) → IfSome o Has → IfSome (option_and_then (λ serial. if is_host step.table serial then focus levels step.table serial else Some serial) o) Has
      by below None has = tt
      by below (Some serial) has = cond_both (is_host step.table serial) (focus levels step.table serial) (Some serial) (λ (o : Option ℕ). IfSome o Has) (λ _. below serial) (λ _. has)

  keyed_at : (to : Option ℕ) (keys : List (List ℕ)) (step : Step) → IfSome to Has → IsAt step → IsAt (keyed to keys step)
  keyed_at None keys step has is = is
  keyed_at (Some serial) [] step has is = is
  keyed_at (Some serial) (key ∷ keys) step has is = keyed_at (Some serial) keys (noted serial (note.Key key) step) has (noted_at serial (note.Key key) step (fair serial (note.Key key) tt has) is)

  -- ---- windows that move

  replaced_at : (keep : Bool) (v : Window) (r : Rect) (step : Step) → Has v.serial → IsAt step → IsAt (replaced keep v r step)
  unfolding replaced
  replaced_at keep v r step has is =
      let name = next_name step.table v in
      let next : Window = renewed r v in
      let placed : Step = with_windows (in_place next) step in
      let o : Order = order.Replace v.serial v.host r name keep v.hidden in
      noted_at v.serial (if keep then note.Moved name r else note.Resized name r) (ordered o placed)
      (cond_both keep (note.Moved name r) (note.Resized name r) (λ (n : Note). Tells v.serial n) (λ _. fair v.serial (note.Moved name r) tt has) (λ _. fair v.serial (note.Resized name r) tt has))
      (ordered_at o placed (windows_at (in_place next) step (each_in_place HasWindow next step.table.windows has is.windows) is))

  abbrev Moves : (Window → Rect → Step → Outcome Step) → Type 0
  Moves move = (v : Window) (r : Rect) (step out : Step) → Has v.serial → IsAt step → move v r step ≡ Ok out → IsAt out

  abbrev Changes : (Window → Step → Outcome Step) → Type 0
  Changes change = (v : Window) (step out : Step) → Has v.serial → IsAt step → change v step ≡ Ok out → IsAt out

  carried_at : (move : Window → Rect → Step → Outcome Step) → Moves move → (by : Point) → Changes (carried move by)
  carried_at move moves by v step out has is e = by_test (is_near (shifted v.r by)) e
    where
      by_test : (b : Bool) → cond b (move v (shifted v.r by) step) (Err 47) ≡ Ok out → IsAt out
      by_test true e = moves v (shifted v.r by) step out has is e
      by_test false e = absurd (let f : ◌≡◌ {A = Outcome Step} (Err 47) (Ok out) = e in cc)

  each_at : (change : Window → Step → Outcome Step) → Changes change → (vs : List Window) (step out : Step) → Each HasWindow vs → IsAt step → each change vs step ≡ Ok out → IsAt out
  each_at change changes [] step out all is e = subst IsAt (same_Ok step out e) is
  each_at change changes (v ∷ vs) step out all is e =
      let first = then_ok (change v step) (each change vs) out e in
      each_at change changes vs first.0 out all.1 (changes v step first.0 all.0 is first.1) first.2

  reversed_has : (vs : List Window) → Each HasWindow vs → Each HasWindow (reverse vs)
  reversed_has vs all = each_of HasWindow (reverse vs) (All-permutation HasWindow vs (reverse vs) (IsPermutation-reverse vs) (all_of HasWindow vs all))

  inside_has : (host : ℕ) (step : Step) → IsAt step → Each HasWindow (windows_in step.table host)
  inside_has host step is = each_filter HasWindow HasWindow (λ v. v.host == host) (λ v _ has. has) step.table.windows is.windows

  followed_at : (move : Window → Rect → Step → Outcome Step) → Moves move → (host : ℕ) (fill : Bool) (by : Point) (step out : Step) → IsAt step → followed move host fill by step ≡ Ok out → IsAt out
  followed_at move moves host fill by step out is e = by_test (is_host step.table host) refl
    where
      inside : List Window
      inside = windows_in step.table host

      by_test : (b : Bool) → is_host step.table host ≡ b → IsAt out
      by_test true at =
          let all : each (carried move by) (reverse inside) (ordered (order.Host host fill) step) ≡ Ok out = rw at at e in
          each_at (carried move by) (carried_at move moves by) (reverse inside) (ordered (order.Host host fill) step) out (reversed_has inside (inside_has host step is))
          (ordered_at (order.Host host fill) step is) all
      by_test false at =
          let same : ◌≡◌ {A = Outcome Step} (Ok step) (Ok out) = rw at at e in
          subst IsAt (same_Ok step out same) is

  moved_at : (levels : ℕ) (keep : Bool) → Moves (moved levels keep)
  unfolding moved
  moved_at zero keep v r step out has is e = subst IsAt (same_Ok step out e) is
  moved_at (suc levels) keep v r step out has is e = followed_at (moved levels true) (moved_at levels true) v.serial (not keep) (way v.r r) (replaced keep v r step) out (replaced_at keep v r step has is) e

  -- ---- windows that go

  pub dropped_at : (v : Window) (step : Step) → Tells v.serial note.Deleted → IsAt step → IsAt (dropped v step)
  unfolding dropped
  dropped_at v step tells is =
      let idle : Step = retired v.host v.serial step in
      let one : IsAt idle = retired_at v.host v.serial step is in
      noted_at v.serial note.Deleted (ordered (order.Drop v.serial) (forgotten v.serial idle)) tells (record {
        windows = each_filter HasWindow HasWindow (λ (u : Window). not (u.serial == v.serial)) (λ u _ has. has) idle.table.windows one.windows;
        rios = (one.rios.0, each_filter Knows Knows (λ (rio : Rio). not (rio.host == v.serial)) (λ rio _ knows. knows) idle.table.rios one.rios.1);
        notes = one.notes;
        serials = one.serials;
      })

  module _ (ends : (serial : ℕ) → Has serial → Tells serial note.Deleted) where
    all_go : (delete : Window → Step → Step) → ((v : Window) (step : Step) → Has v.serial → IsAt step → IsAt (delete v step)) → (vs : List Window) (step : Step) → Each HasWindow vs → IsAt step → IsAt (fold (λ step v. delete v step) step vs)
    all_go delete goes [] step all is = is
    all_go delete goes (v ∷ vs) step all is = all_go delete goes vs (delete v step) all.1 (goes v step all.0 is)

    deleted_at : (levels : ℕ) (v : Window) (step : Step) → Has v.serial → IsAt step → IsAt (deleted levels v step)
    unfolding deleted
    deleted_at zero v step has is = is
    deleted_at (suc levels) v step has is =
        dropped_at v (fold (λ step u. deleted levels u step) step (made_in step.table v.serial)) (ends v.serial has)
        (all_go (deleted levels) (deleted_at levels) (made_in step.table v.serial) step (fold_each HasWindow (windows_in step.table v.serial) [] tt (inside_has v.serial step is)) is)

  -- ---- commands

  made_at : (v : Window) (step : Step) → least < v.serial → IsAt step → IsAt (made v step)
  unfolding made
  made_at v step later is =
      let path = path_of step.table v.host ++ v.number ∷ [] in
      let name = name_by path v.generation in
      let has : Has v.serial = anew v.serial later in
      let entering : Step = record step { table = record step.table { serials = v.serial; windows = v ∷ step.table.windows } } in
      let placed : Step = ordered (order.Make v.serial v.host v.r name v.hidden (length path)) (entered v step) in
      let there : Step = noted v.serial (note.Made v.number v.serial name v.r (length path)) placed in
      let one : IsAt (entered v step) = rio_at v.host (λ rio. record rio { next = next_number rio.next }) (λ rio was. record { current = was.current; hold = was.hold }) entering
      (record { windows = (has, is.windows); rios = is.rios; notes = is.notes; serials = omega (arith, later) }) in
      let after : IsAt there = noted_at v.serial (note.Made v.number v.serial name v.r (length path)) placed (fair v.serial (note.Made v.number v.serial name v.r (length path)) tt has)
      (record { windows = one.windows; rios = one.rios; notes = one.notes; serials = one.serials }) in
      cond_both v.hidden (noted v.serial (note.Hidden true) there) (with_current v.host (Some v.serial) there) IsAt
      (λ _. noted_at v.serial (note.Hidden true) there (fair v.serial (note.Hidden true) tt has) after) (λ _. current_at v.host (Some v.serial) there has after)

  new_at : (host : ℕ) (options : List Choice) (hide : Bool) (step out : Step) → IsAt step → new_in host options hide step ≡ Ok out → IsAt out
  unfolding new_in
  new_at host options hide step out is e =
      let home = value_ok (rio_of step.table host) 42 _ out e in
      let place = value_ok (applied false options (first_rectangle (rectangle_of step.table host))) 47 _ out home.2 in
      let room = refuse_ok (is_full step.table) 49 _ out place.2 in
      let v = new_window step.table host home.0.next hide place.0 in
      let given = is.serials in
      subst IsAt (same_Ok _ out room.1) (made_at v step (omega (arith, given)) is)

  moved_by_at : (keep : Bool) (options : List Choice) (v : Window) (step out : Step) → Has v.serial → IsAt step → moved_by keep options v step ≡ Ok out → IsAt out
  unfolding moved_by
  moved_by_at keep options v step out has is e =
      let place = value_ok (applied keep options v.r) 47 _ out e in
      moved_at deepest keep v place.0 step out has is place.2

  hosted_at : (v : Window) (step out : Step) → IsAt step → hosted v step ≡ Ok out → IsAt out
  unfolding hosted
  hosted_at v step out is e =
      let free = refuse_ok (is_host step.table v.serial) 47 _ out e in
      let shallow = refuse_ok (nat_le 8 (length (path_of step.table v.host))) 50 _ out free.1 in
      subst IsAt (same_Ok _ out shallow.1) (record {
        windows = is.windows;
        rios = each_append Knows (step.table.root ∷ step.table.rios) (no_windows v.serial ∷ []) is.rios (record { current = tt; hold = tt }, tt);
        notes = is.notes;
        serials = is.serials;
      })

  off_has : (r : Rect) (step : Step) → IsAt step → Each HasWindow (windows_off r step.table)
  off_has r step is =
      reversed_has (filter (λ v. is_empty (meet v.r r)) (windows_in step.table 0))
      (each_filter HasWindow HasWindow (λ v. is_empty (meet v.r r)) (λ v _ has. has) (windows_in step.table 0) (inside_has 0 step is))

  resized_at : (width height : ℕ) (step out : Step) → IsAt step → resized width height step ≡ Ok out → IsAt out
  unfolding resized
  resized_at width height step out is e =
      let r = box (pos 0) (pos 0) (pos width) (pos height) in
      let next : Step = record step { table = record step.table { r = r } } in
      each_at (moved_by true to_corner) (moved_by_at true to_corner) (windows_off r step.table) (ordered (order.Size width height) next) out (off_has r step is)
      (ordered_at (order.Size width height) next (record { windows = is.windows; rios = is.rios; notes = is.notes; serials = is.serials })) e

  done_at : (next out : Step) → IsAt next → ◌≡◌ {A = Outcome Step} (Ok next) (Ok out) → IsAt out
  done_at next out is e = subst IsAt (same_Ok next out e) is

  -- what must be so where a window is deleted
  abbrev pub MayEnd : Bool → Type 0
  MayEnd true = (serial : ℕ) → Has serial → Tells serial note.Deleted
  MayEnd false = Unit {0}

  commanded_at : (at : ℕ) (what : Wctl) (v : Window) (step out : Step) → MayEnd (deletes (act.Command at what)) → Has v.serial → IsAt step → commanded what v step ≡ Ok out → IsAt out
  commanded_at at (wctl.New options hide) v step out ends has is e = new_at v.host options hide step out is e
  commanded_at at (wctl.Resize options) v step out ends has is e = moved_by_at false options v step out has is e
  commanded_at at (wctl.Move options) v step out ends has is e = moved_by_at true options v step out has is e
  commanded_at at wctl.Top v step out ends has is e = done_at (to_top v step) out (top_at v step has is) e
  commanded_at at wctl.Bottom v step out ends has is e = done_at (to_bottom v step) out (bottom_at v step has is) e
  commanded_at at wctl.Hide v step out ends has is e = done_at (hidden v step) out (hidden_at v step has is) e
  commanded_at at wctl.Unhide v step out ends has is e = done_at (shown v step) out (shown_at v step has is) e
  commanded_at at wctl.Current v step out ends has is e = done_at (made_current v step) out (made_current_at v step has is) e
  commanded_at at wctl.Delete v step out ends has is e = done_at (deleted deepest v step) out (deleted_at ends deepest v step has is) e
  commanded_at at (wctl.Scroll scrolls) v step out ends has is e = done_at step out is e
  commanded_at at wctl.Set v step out ends has is e = done_at step out is e
  commanded_at at wctl.Host v step out ends has is e = hosted_at v step out is e

  command_to_at : (serial : ℕ) (what : Wctl) (step out : Step) → MayEnd (deletes (act.Command serial what)) → IsAt step → command_to serial what step ≡ Ok out → IsAt out
  unfolding command_to
  command_to_at serial what step out ends is e =
      let found = value_ok (window_of step.table serial) 42 _ out e in
      commanded_at serial what found.0 step out ends (each_found HasWindow (λ (v : Window). v.serial == serial) step.table.windows found.0 is.windows found.1) is found.2

  -- Each act.
  pub act_at : (table : Table) (a : Act) (out : Step) → MayEnd (deletes a) → IsAt (begun table) → rio table a ≡ Ok out → IsAt out
  act_at table (act.New host options hide) out ends is e = new_at host options hide (begun table) out is e
  act_at table (act.Command window what) out ends is e = command_to_at window what (begun table) out ends is e
  act_at table (act.Mouse pointer) out ends is e = done_at (moused deepest pointer 0 (begun table)) out (moused_at deepest pointer 0 (begun table) is) e
  act_at table (act.Keys bytes) out ends is e =
      done_at (keyed (focus deepest table 0) (keys_of bytes) (begun table)) out (keyed_at (focus deepest table 0) (keys_of bytes) (begun table) (focus_has deepest 0 (begun table) is) is) e
  act_at table (act.Gone window) out ends is e = command_to_at window wctl.Delete (begun table) out ends is e
  act_at table (act.Size width height) out ends is e = resized_at width height (begun table) out is e
