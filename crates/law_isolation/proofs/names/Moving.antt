-- The acts in which no window comes or goes: on the way each name is that of its window.
use Rattle.std.proofs.Common.{◌≡◌, ◌<◌, ◌^◌, ℕ, zero, suc, pos, Bool, true, false, cond, List, [], ◌∷◌, ◌++◌, reverse, length, nat_le, Option, Some, None, Ok, Err, refl, subst}
use Rattle.std.specs.Prelude.{◌==◌, filter, not}
use Rattle.std.specs.Map.{keys_of}
use Rattle.std.proofs.lemmas.List.Sorted.{All-permutation, IsPermutation-reverse}
use Rattle.r9_geom.specs.declared.Rect.{Rect}
use Rattle.r9_geom.specs.declared.Point.{Point}
use Rattle.r9_geom.specs.Geometry.{is_empty, meet, shifted}
use Rattle.r9_event.specs.window.Ways.{way}
use Rattle.r9_event.specs.declared.event.rio.Note.TheVariants as note
use Rattle.r9_event.specs.declared.event.rio.Order.TheVariants as order
use Rattle.model_text.specs.map.Ascending.{Ascend}
use Rattle.model_text.specs.text.Outcome.{Outcome}
use Rattle.model_files.specs.declared.mouse.Mouse.{Mouse}
use Rattle.model_files.specs.declared.wctl.Choice.{Choice}
use Rattle.model_files.specs.wctl.Rectangle.{applied, box, is_near}
use Rattle.model_rio.specs.window.Pane.{Pane}
use Rattle.model_draw.specs.draw.World.{World}
use Rattle.model_rio.specs.rio.Table.{Window, Table, Hold, Free, Held, Nobody, deepest, hold_of, is_host, no_windows, path_of, topmost, windows_in}
use Rattle.model_rio.specs.rio.Step.{Step, noted, ordered, with_current}
use Rattle.model_rio.specs.rio.Moving.{carried, each, followed, moved, replaced}
use Rattle.model_rio.specs.rio.Routing.{given, keyed, moused, point_of, pressed, reacted, receiver}
use Rattle.model_rio.specs.rio.Rio.{hosted, moved_by, resized, to_corner, to_top, windows_off}
use Rattle.model_rio.specs.rio.Sound.{IsSound}
use Rattle.law_shown.proofs.shown.Tests.{refuse_ok, same_Ok, then_ok, value_ok}
use Rattle.law_shown.proofs.fitting.Lists.{Each, all_of, each_filter, each_found, each_of}
use Rattle.law_isolation.proofs.names.Placing.{StandsIn}
use Rattle.law_isolation.proofs.names.Standing.{Stands, current_stands, hold_stands, noted_stands, ordered_stands, replaced_stands, rios_stand, top_stands}

module _ (large : Table) (ok : IsSound large) (few : large.serials < 2 ^ 32) (device : World) (panes : List (ℕ × Pane)) (ascend : Ascend (keys_of panes)) where
  abbrev Holds : Step → Type 0
  Holds step = Stands large ok few device panes ascend step

  -- ---- the mouse and the keys

  pressed_holds : (host : ℕ) (top : Option Window) (step : Step) → Holds step → ((w : Window) → top ≡ Some w → StandsIn large w) → Holds (pressed host top step)
  pressed_holds host None step is at = hold_stands large ok few device panes ascend host Nobody step is
  pressed_holds host (Some w) step is at =
      let up : Step = to_top w step in
      hold_stands large ok few device panes ascend host (Held w.serial) (with_current host (Some w.serial) up)
      (current_stands large ok few device panes ascend host (Some w.serial) up (top_stands large ok few device panes ascend w step (at w refl) is))

  reacted_holds : (e : Mouse) (host : ℕ) (step : Step) → Holds step → Holds (reacted e host step)
  unfolding reacted
  reacted_holds e host step is = by_hold (hold_of step.table host) (e.buttons == 0) refl refl
    where
      by_hold : (hold : Hold) (released : Bool) → hold_of step.table host ≡ hold → (e.buttons == 0) ≡ released → Holds (reacted e host step)
      by_hold Free true at up = rw (at, up) is
      by_hold Free false at up = rw (at, up) (pressed_holds host (topmost step.table host (point_of e)) step is (λ w found. each_found (StandsIn large) _ step.table.windows w is.each found))
      by_hold (Held serial) true at up = rw (at, up) (hold_stands large ok few device panes ascend host Free step is)
      by_hold Nobody true at up = rw (at, up) (hold_stands large ok few device panes ascend host Free step is)
      by_hold (Held serial) false at up = rw (at, up) is
      by_hold Nobody false at up = rw (at, up) is

  given_holds : (pass : ℕ → Step → Step) → ((host : ℕ) (step : Step) → Holds step → Holds (pass host step)) → (e : Mouse) (to : Option ℕ) (step : Step) → Holds step → Holds (given pass e to step)
  given_holds pass passes e None step is = is
  given_holds pass passes e (Some serial) step is = by_test (is_host step.table serial) refl
    where
      by_test : (b : Bool) → is_host step.table serial ≡ b → Holds (given pass e (Some serial) step)
      by_test true at = rw at (passes serial step is)
      by_test false at = rw at (noted_stands large ok few device panes ascend serial (note.Mouse e.x e.y e.buttons e.msec) step tt is)

  pub moused_holds : (levels : ℕ) (e : Mouse) (host : ℕ) (step : Step) → Holds step → Holds (moused levels e host step)
  unfolding moused
  moused_holds zero e host step is = is
  moused_holds (suc levels) e host step is =
      given_holds (moused levels e) (moused_holds levels e) e (receiver step.table e host (hold_of step.table host)) (reacted e host step) (reacted_holds e host step is)

  pub keyed_holds : (to : Option ℕ) (keys : List (List ℕ)) (step : Step) → Holds step → Holds (keyed to keys step)
  keyed_holds None keys step is = is
  keyed_holds (Some serial) [] step is = is
  keyed_holds (Some serial) (key ∷ keys) step is = keyed_holds (Some serial) keys (noted serial (note.Key key) step) (noted_stands large ok few device panes ascend serial (note.Key key) step tt is)

  -- ---- windows that move

  abbrev Moves : (Window → Rect → Step → Outcome Step) → Type 0
  Moves move = (w : Window) (r : Rect) (step out : Step) → StandsIn large w → Holds step → move w r step ≡ Ok out → Holds out

  abbrev Changes : (Window → Step → Outcome Step) → Type 0
  Changes change = (w : Window) (step out : Step) → StandsIn large w → Holds step → change w step ≡ Ok out → Holds out

  carried_holds : (move : Window → Rect → Step → Outcome Step) → Moves move → (by : Point) → Changes (carried move by)
  carried_holds move moves by w step out at is e = by_test (is_near (shifted w.r by)) e
    where
      by_test : (b : Bool) → cond b (move w (shifted w.r by) step) (Err 47) ≡ Ok out → Holds out
      by_test true e = moves w (shifted w.r by) step out at is e
      by_test false e = absurd (let f : ◌≡◌ {A = Outcome Step} (Err 47) (Ok out) = e in cc)

  each_holds : (change : Window → Step → Outcome Step) → Changes change → (ws : List Window) (step out : Step) → Each (StandsIn large) ws → Holds step → each change ws step ≡ Ok out → Holds out
  each_holds change changes [] step out at is e = subst Holds (same_Ok step out e) is
  each_holds change changes (w ∷ ws) step out at is e =
      let first = then_ok (change w step) (each change ws) out e in
      each_holds change changes ws first.0 out at.1 (changes w step first.0 at.0 is first.1) first.2

  followed_holds : (move : Window → Rect → Step → Outcome Step) → Moves move → (host : ℕ) (fill : Bool) (by : Point) (step out : Step) → Holds step → followed move host fill by step ≡ Ok out → Holds out
  followed_holds move moves host fill by step out is e = by_test (is_host step.table host) refl
    where
      inside : List Window
      inside = windows_in step.table host

      standing : Each (StandsIn large) inside
      standing = each_filter (StandsIn large) (StandsIn large) (λ w. w.host == host) (λ w here at. at) step.table.windows is.each

      by_test : (b : Bool) → is_host step.table host ≡ b → Holds out
      by_test true at =
          let all : each (carried move by) (reverse inside) (ordered (order.Host host fill) step) ≡ Ok out = rw at at e in
          each_holds (carried move by) (carried_holds move moves by) (reverse inside) (ordered (order.Host host fill) step) out
          (each_of (StandsIn large) (reverse inside) (All-permutation (StandsIn large) inside (reverse inside) (IsPermutation-reverse inside) (all_of (StandsIn large) inside standing)))
          (ordered_stands large ok few device panes ascend (order.Host host fill) step tt (λ window. tt) is) all
      by_test false at =
          let same : ◌≡◌ {A = Outcome Step} (Ok step) (Ok out) = rw at at e in
          subst Holds (same_Ok step out same) is

  moved_holds : (levels : ℕ) (keep : Bool) → Moves (moved levels keep)
  unfolding moved
  moved_holds zero keep w r step out at is e = subst Holds (same_Ok step out e) is
  moved_holds (suc levels) keep w r step out at is e =
      followed_holds (moved levels true) (moved_holds levels true) w.serial (not keep) (way w.r r) (replaced keep w r step) out (replaced_stands large ok few device panes ascend keep w r step at is) e

  pub moved_by_holds : (keep : Bool) (options : List Choice) (w : Window) (step out : Step) → StandsIn large w → Holds step → moved_by keep options w step ≡ Ok out → Holds out
  unfolding moved_by
  moved_by_holds keep options w step out at is e =
      let place = value_ok (applied keep options w.r) 47 _ out e in
      moved_holds deepest keep w place.0 step out at is place.2

  off_standing : (r : Rect) (step : Step) → Holds step → Each (StandsIn large) (windows_off r step.table)
  off_standing r step is =
      let inside = windows_in step.table 0 in
      let off = filter (λ w. is_empty (meet w.r r)) inside in
      let standing = each_filter (StandsIn large) (StandsIn large) (λ w. is_empty (meet w.r r)) (λ w here at. at) inside
      (each_filter (StandsIn large) (StandsIn large) (λ w. w.host == 0) (λ w here at. at) step.table.windows is.each) in
      each_of (StandsIn large) (reverse off) (All-permutation (StandsIn large) off (reverse off) (IsPermutation-reverse off) (all_of (StandsIn large) off standing))

  pub resized_holds : (width height : ℕ) (step out : Step) → Holds step → resized width height step ≡ Ok out → Holds out
  unfolding resized
  resized_holds width height step out is e =
      let r = box (pos 0) (pos 0) (pos width) (pos height) in
      let next : Step = record step { table = record step.table { r = r } } in
      let same : Holds next = record { serials = is.serials; each = is.each; lives = is.lives; ties = is.ties; free = is.free; files = is.files } in
      each_holds (moved_by true to_corner) (moved_by_holds true to_corner) (windows_off r step.table) (ordered (order.Size width height) next) out (off_standing r step is)
      (ordered_stands large ok few device panes ascend (order.Size width height) next tt (λ window. tt) same) e

  -- ---- a rio in a window

  pub hosted_holds : (w : Window) (step out : Step) → Holds step → hosted w step ≡ Ok out → Holds out
  unfolding hosted
  hosted_holds w step out is e =
      let free = refuse_ok (is_host step.table w.serial) 47 _ out e in
      let shallow = refuse_ok (nat_le 8 (length (path_of step.table w.host))) 50 _ out free.1 in
      let rios = step.table.rios ++ no_windows w.serial ∷ [] in
      subst Holds (same_Ok _ out shallow.1)
      (ordered_stands large ok few device panes ascend (order.Host w.serial true) (record step { table = record step.table { rios = rios } }) tt (λ window. tt)
      (rios_stand large ok few device panes ascend rios step is))
