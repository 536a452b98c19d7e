-- An event of the mouse that goes to the windows does to rio's what it does to those of a desk's table.
use Rattle.std.proofs.Common.{◌≡◌, ◌∙◌, ℕ, ◌<◌, ◌==◌, ◌&&◌, ◌+◌, Bool, true, false, cond, not, List, [], ◌∷◌, find, length, Option, Some, None, option_map, IfSome, refl, sym, ap, subst, arith, ne_eqb}
use Rattle.r9_geom.specs.declared.Point.{Point}
use Rattle.r9_geom.specs.declared.Rect.{Rect}
use Rattle.r9_geom.specs.Geometry.{holds}
use Rattle.r9_event.specs.declared.event.rio.Order.TheVariants as order
use Rattle.model_files.specs.declared.mouse.Mouse.{Mouse}
use Rattle.model_rio.specs.rio.Act as act
use Rattle.model_rio.specs.rio.Table.{Free, Held, Hold, Nobody, Table, Window, deepest, is_host}
use Rattle.model_rio.specs.rio.Step.{Step, begun, is_same, raised, with_current}
use Rattle.model_rio.specs.rio.Routing.{given, moused, point_of, pressed, reacted, receiver}
use Rattle.model_rio.specs.rio.Sound.{IfHeld, window_in}
use Rattle.model_rio.proofs.rio.Soundness.{step_sound}
use Rattle.law_shown.proofs.shown.Tests.{find-passes, split}
use Rattle.law_shown.proofs.fitting.Lists.{Apart, Each, all_of, apart_of, each_filter, each_found, each_own}
use Rattle.model_client.specs.declared.desk.Mode.{Mode}
use Rattle.model_client.specs.declared.desk.Mode.TheVariants.{Idle}
use Rattle.model_client.specs.declared.desk.Pane.{Pane}
use Rattle.model_client.specs.desk.Table.{Desk, with_raised}
use Rattle.model_client.specs.desk.Asked as asked
use Rattle.model_clients.specs.piloted.Following.{hidden_panes, pane_by, pane_of, seen_panes}
use Rattle.law_desk.specs.piloted.Following.{Follows, is_free, is_over}
use Rattle.law_desk.proofs.piloted.Plain.{IsAt, are_own, held_at, made_current, plain, plain_is}
use Rattle.law_desk.proofs.piloted.Panes.{hidden_raised, seen_raised, top_pane, topmost_in}

-- the windows after a press, where there is one at the point
abbrev raised_at : Option Window → List Window → List Window
raised_at None ws = ws
raised_at (Some w) ws = raised w ws

-- the windows after an event
abbrev windows_after : Hold → Mouse → List Window → List Window
windows_after hold e ws = cond (not (e.buttons == 0) && is_free hold) (raised_at (topmost_in ws (point_of e)) ws) ws

module _ (r : Rect) (serials next : ℕ) where
  pressed_at : (o : Option Window) (current : Option ℕ) (hold : Hold) (ws : List Window) → IsAt r serials next false (raised_at o ws) (pressed 0 o (begun (plain r serials next current hold ws))).table
  pressed_at None current hold ws = held_at r serials next (is_free hold) Nobody ws (begun (plain r serials next current hold ws)) (record { current = current; hold = hold; is = refl; held = refl })
  pressed_at (Some w) current hold ws = held_at r serials next (is_free hold) (Held w.serial) (raised w ws)
      (with_current 0 (Some w.serial) (record { table = plain r serials next current hold (raised w ws); orders = order.Raise w.serial ∷ []; notes = [] }))
      (made_current r serials next current hold (raised w ws) (order.Raise w.serial ∷ []) [] (Some w.serial))

  -- a press begins a hold, and an event without buttons ends it
  reacted_at : (e : Mouse) (b : Bool) → (e.buttons == 0) ≡ b → (current : Option ℕ) (hold : Hold) (ws : List Window)
      → IsAt r serials next b (cond (not b && is_free hold) (raised_at (topmost_in ws (point_of e)) ws) ws) (reacted e 0 (begun (plain r serials next current hold ws))).table
  unfolding reacted
  reacted_at e true is current Free ws = rw is (record { current = current; hold = Free; is = refl; held = refl })
  reacted_at e false is current Free ws = rw is (pressed_at (topmost_in ws (point_of e)) current Free ws)
  reacted_at e true is current (Held serial) ws = rw is (held_at r serials next false Free ws (begun (plain r serials next current (Held serial) ws)) (record { current = current; hold = Held serial; is = refl; held = refl }))
  reacted_at e false is current (Held serial) ws = rw is (record { current = current; hold = Held serial; is = refl; held = refl })
  reacted_at e true is current Nobody ws = rw is (held_at r serials next false Free ws (begun (plain r serials next current Nobody ws)) (record { current = current; hold = Nobody; is = refl; held = refl }))
  reacted_at e false is current Nobody ws = rw is (record { current = current; hold = Nobody; is = refl; held = refl })

  -- who gets the event is a window that hosts no rio, so that nothing else becomes of the table
  given_at : (levels : ℕ) (e : Mouse) (to : Option ℕ) (free : Bool) (ws : List Window) (step : Step) → IfSome to (λ serial. 0 < serial) → IsAt r serials next free ws step.table → (given (moused levels e) e to step).table ≡ step.table
  given_at levels e None free ws step some at = refl
  given_at levels e (Some serial) free ws step some at =
      let none : is_host step.table serial ≡ false = ap (λ table. is_host table serial) at.is ∙ rw (ne_eqb 0 serial (λ same. omega (arith, some, same))) refl in
      rw none refl

  received : (e : Mouse) (current : Option ℕ) (hold : Hold) (ws : List Window) → Each (λ w. 0 < w.serial) ws → IfHeld hold (λ serial. 0 < serial)
      → IfSome (receiver (plain r serials next current hold ws) e 0 hold) (λ serial. 0 < serial)
  received e current (Held serial) ws each held = held
  received e current Nobody ws each held = tt
  received e current Free ws each held = by (topmost_in ws (point_of e)) refl (e.buttons == 0)
    where
      found : (o : Option Window) → topmost_in ws (point_of e) ≡ o → IfSome (option_map (λ w. w.serial) o) (λ serial. 0 < serial)
      found None is = tt
      found (Some w) is = each_found (λ v. 0 < v.serial) (λ v. (v.host == 0) && not v.hidden && holds v.r (point_of e)) ws w each is

      either : (c : Bool) (o : Option ℕ) → IfSome o (λ serial. 0 < serial) → IfSome (cond c o None) (λ serial. 0 < serial)
      either true o some = some
      either false o some = tt

      by : (o : Option Window) → topmost_in ws (point_of e) ≡ o → (b : Bool) → IfSome (cond b (cond (is_same current (option_map (λ w. w.serial) o)) (option_map (λ w. w.serial) o) None) (option_map (λ w. w.serial) o)) (λ serial. 0 < serial)
      by o is true = either (is_same current (option_map (λ w. w.serial) o)) (option_map (λ w. w.serial) o) (found o is)
      by o is false = found o is

  moused_at : (e : Mouse) (current : Option ℕ) (hold : Hold) (ws : List Window) → Each (λ w. 0 < w.serial) ws → IfHeld hold (λ serial. 0 < serial)
      → IsAt r serials next (e.buttons == 0) (windows_after hold e ws) (moused deepest e 0 (begun (plain r serials next current hold ws))).table
  unfolding moused
  moused_at e current hold ws each held =
      let at = reacted_at e (e.buttons == 0) refl current hold ws in
      let same = given_at 8 e (receiver (plain r serials next current hold ws) e 0 hold) (e.buttons == 0) (windows_after hold e ws) (reacted e 0 (begun (plain r serials next current hold ws))) (received e current hold ws each held) at in
      record { current = at.current; hold = at.hold; is = same ∙ at.is; held = at.held }

-- ---- the windows of a desk

-- a window that is topmost at a point
record IsTop (ws : List Window) (w : Window) : Type 0 where
  seen : w.hidden ≡ false
  numbered : w.number ≡ w.serial
  found : window_in ws w.serial ≡ Some w

is_top : (ws : List Window) (p : Point) (w : Window) → Apart ws → Each (λ v. v.number ≡ v.serial) ws → topmost_in ws p ≡ Some w → IsTop ws w
is_top ws p w apart own is =
    let test : Window → Bool = λ v. (v.host == 0) && not v.hidden && holds v.r p in
    let passes = find-passes test ws w is in
    record {
      seen = by w.hidden (split (w.host == 0) (not w.hidden) (split (w.host == 0 && not w.hidden) (holds w.r p) passes).0).1;
      numbered = each_found (λ v. v.number ≡ v.serial) test ws w own is;
      found = each_found (λ v. window_in ws v.serial ≡ Some v) test ws w (each_own ws apart) is;
    }
  where
    by : (b : Bool) → not b ≡ true → b ≡ false
    by true e = absurd (let both : false ≡ true = e in cc both)
    by false e = refl

-- the panes of the windows after an event
record AreAfter (next ws : List Window) (raised : Option Pane) : Type 0 where
  own : Each (λ w. w.number ≡ w.serial) next
  seen : seen_panes next ≡ with_raised raised (seen_panes ws)
  hidden : hidden_panes next ≡ hidden_panes ws

are_raised : (ws : List Window) (p : Point) (o : Option Window) → topmost_in ws p ≡ o → Apart ws → Each (λ v. v.number ≡ v.serial) ws → AreAfter (raised_at o ws) ws (option_map pane_of o)
are_raised ws p None is apart own = record { own = own; seen = refl; hidden = refl }
are_raised ws p (Some w) is apart own =
    let top = is_top ws p w apart own is in
    record {
      own = (top.numbered, each_filter (λ v. v.number ≡ v.serial) (λ v. v.number ≡ v.serial) (λ v. not (v.serial == w.serial)) (λ v _ same. same) ws own);
      seen = seen_raised ws w own top.seen top.numbered;
      hidden = hidden_raised ws w apart top.found top.seen;
    }

-- a press, where it is one
are_after : (ws : List Window) (p : Point) (b : Bool) → Apart ws → Each (λ v. v.host ≡ 0) ws → Each (λ v. v.number ≡ v.serial) ws
    → AreAfter (cond b (raised_at (topmost_in ws p) ws) ws) ws (cond b (find (λ pane. holds pane.r p) (seen_panes ws)) None)
are_after ws p false apart root own = record { own = own; seen = refl; hidden = refl }
are_after ws p true apart root own =
    subst (λ (raised : Option Pane). AreAfter (raised_at (topmost_in ws p) ws) ws raised) (sym (top_pane ws p root)) (are_raised ws p (topmost_in ws p) refl apart own)

-- the table of a desk after an event that goes to the windows
abbrev pub passed : Desk → Mouse → Desk
passed d e = record d { visible = with_raised (asked.raised d e) d.visible; last = e.buttons; mode = Idle }

-- Rio's windows follow.
pub passed_follows : (d : Desk) (table : Table) (e : Mouse) → Follows d table → d.mode ≡ Idle → Follows (passed d e) (moused deepest e 0 (begun table)).table
passed_follows d table e is idle =
    let own = are_own d table is in
    let free : is_free table.root.hold ≡ (d.last == 0) = is.hold ∙ ap (λ (mode : Mode). is_over mode d.last) idle in
    let at = subst (λ (t : Table). IsAt table.r table.serials table.root.next (e.buttons == 0) (windows_after table.root.hold e table.windows) (moused deepest e 0 (begun t)).table)
    (sym (plain_is table is.sound.root is.alone))
    (moused_at table.r table.serials table.root.next e table.root.current table.root.hold table.windows own.counted own.held) in
    let windows : (moused deepest e 0 (begun table)).table.windows ≡ cond (not (e.buttons == 0) && (d.last == 0)) (raised_at (topmost_in table.windows (point_of e)) table.windows) table.windows =
    ap (λ (t : Table). t.windows) at.is ∙ ap (λ (b : Bool). cond (not (e.buttons == 0) && b) (raised_at (topmost_in table.windows (point_of e)) table.windows) table.windows) free
    in
    let after = subst (λ (ws : List Window). AreAfter ws table.windows (cond (not (e.buttons == 0) && (d.last == 0)) (find (λ pane. holds pane.r (point_of e)) (seen_panes table.windows)) None)) (sym windows)
    (are_after table.windows (point_of e) (not (e.buttons == 0) && (d.last == 0)) (apart_of table.windows is.sound.serials) own.root own.own) in
    let raised : cond (not (e.buttons == 0) && (d.last == 0)) (find (λ pane. holds pane.r (point_of e)) (seen_panes table.windows)) None ≡ asked.raised d e =
    ap (λ (panes : List Pane). cond (not (e.buttons == 0) && (d.last == 0)) (find (λ pane. holds pane.r (point_of e)) panes) None) is.visible
    in
    record {
      sound = step_sound table (act.Mouse e) (moused deepest e 0 (begun table)) is.sound refl;
      alone = ap (λ (t : Table). t.rios) at.is;
      own = all_of (λ w. w.number ≡ w.serial) (moused deepest e 0 (begun table)).table.windows after.own;
      visible = after.seen ∙ (λ i. with_raised (raised i) (is.visible i));
      hidden = λ number. ap (pane_by number) after.hidden ∙ is.hidden number;
      count = ap length after.hidden ∙ is.count;
      next = ap (λ (t : Table). t.root.next) at.is ∙ is.next;
      given = ap (λ (t : Table). t.serials + 1) at.is ∙ is.given;
      hold = ap (λ (t : Table). is_free t.root.hold) at.is ∙ at.held;
    }
