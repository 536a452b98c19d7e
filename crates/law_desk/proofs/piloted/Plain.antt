-- Tables of windows with no rio but the root's.
use Rattle.std.proofs.Common.{◌≡◌, ◌∙◌, ℕ, ◌<◌, ◌==◌, ◌+◌, Bool, true, false, cond, List, [], length, Option, Some, None, All, IsSomeAnd, refl, sym, ap, subst, eqb-true}
use Rattle.std.proofs.lemmas.List.Elements.{All-head}
use Rattle.r9_geom.specs.declared.Rect.{Rect}
use Rattle.r9_event.specs.declared.event.rio.Note.{Note}
use Rattle.r9_event.specs.declared.event.rio.Order.{Order}
use Rattle.model_rio.specs.rio.Table.{Free, Held, Hold, Nobody, Table, Window, hold_of, is_host}
use Rattle.model_rio.specs.rio.Step.{Step, is_held, is_same, retired, told_current, with_current, with_hold}
use Rattle.model_rio.specs.rio.Sound.{IfHeld, IsSeenIn, IsSound, IsSoundRio, IsSoundWindow, window_in}
use Rattle.law_shown.proofs.shown.Tests.{find-passes}
use Rattle.law_shown.proofs.fitting.Lists.{Each, all_of, each_found, each_of, each_then}
use Rattle.model_client.specs.desk.Table.{Desk}
use Rattle.model_clients.specs.piloted.Following.{hidden_panes, pane_by, seen_panes}
use Rattle.law_desk.specs.piloted.Following.{Follows, is_free, is_over}

-- ---- a table of the root rio alone

abbrev pub plain : Rect → (serials next : ℕ) → Option ℕ → Hold → List Window → Table
plain r serials next current hold windows =
    record { r = r; serials = serials; root = record { host = 0; next = next; current = current; hold = hold }; rios = []; windows = windows }

pub plain_is : (table : Table) → table.root.host ≡ 0 → table.rios ≡ [] → table ≡ plain table.r table.serials table.root.next table.root.current table.root.hold table.windows
plain_is table host rios = λ i. record {
  r = table.r;
  serials = table.serials;
  root = record { host = host i; next = table.root.next; current = table.root.current; hold = table.root.hold };
  rios = rios i;
  windows = table.windows;
}

pub told_table : (o : Option ℕ) (is : Bool) (step : Step) → (told_current o is step).table ≡ step.table
told_table None is step = refl
told_table (Some serial) is step = refl

module _ (r : Rect) (serials next : ℕ) where
  -- the table with these windows, whichever is current, in which the mouse is held or not
  pub record IsAt (free : Bool) (ws : List Window) (table : Table) : Type 0 where
    pub current : Option ℕ
    pub hold : Hold
    pub is : table ≡ plain r serials next current hold ws
    pub held : is_free hold ≡ free

  -- another window is current, or none
  pub made_current : (current : Option ℕ) (hold : Hold) (ws : List Window) (orders : List Order) (notes : List (ℕ × Note)) (new : Option ℕ)
      → IsAt (is_free hold) ws (with_current 0 new (record { table = plain r serials next current hold ws; orders = orders; notes = notes })).table
  unfolding with_current
  made_current current hold ws orders notes new = by (is_same current new)
    where
      by : (b : Bool) → IsAt (is_free hold) ws (cond b (record { table = plain r serials next current hold ws; orders = orders; notes = notes }) (told_current new true (told_current current false (record { table = plain r serials next new hold ws; orders = orders; notes = notes })))).table
      by true = record { current = current; hold = hold; is = refl; held = refl }
      by false = record {
        current = new;
        hold = hold;
        is = told_table new true (told_current current false (record { table = plain r serials next new hold ws; orders = orders; notes = notes }))
            ∙ told_table current false (record { table = plain r serials next new hold ws; orders = orders; notes = notes });
        held = refl;
      }

  -- a hold begins or ends
  pub held_at : (free : Bool) (hold : Hold) (ws : List Window) (step : Step) → IsAt free ws step.table → IsAt (is_free hold) ws (with_hold 0 hold step).table
  held_at free hold ws step at = record {
    current = at.current;
    hold = hold;
    is = ap (λ (table : Table). (with_hold 0 hold (record { table = table; orders = step.orders; notes = step.notes })).table) at.is;
    held = refl;
  }

  -- a window goes that does not hold the mouse
  pub retired_at : (current : Option ℕ) (hold : Hold) (ws : List Window) (orders : List Order) (notes : List (ℕ × Note)) (serial : ℕ) → is_free hold ≡ true
      → IsAt true ws (retired 0 serial (record { table = plain r serials next current hold ws; orders = orders; notes = notes })).table
  unfolding retired
  retired_at current hold ws orders notes serial free = by (is_same current (Some serial))
    where
      none : (h : Hold) → is_free h ≡ true → is_held serial h ≡ false
      none Free e = refl
      none (Held holder) e = absurd (let both : false ≡ true = e in cc both)
      none Nobody e = refl

      stays : (idle : Step) → IsAt (is_free hold) ws idle.table → IsAt true ws (cond (is_held serial (hold_of idle.table 0)) (with_hold 0 Nobody idle) idle).table
      stays idle at =
          let same : hold_of idle.table 0 ≡ at.hold = ap (λ (t : Table). hold_of t 0) at.is in
          rw (same, none at.hold (at.held ∙ free)) (record { current = at.current; hold = at.hold; is = at.is; held = at.held ∙ free })

      by : (b : Bool) → IsAt true ws (cond (is_held serial (hold_of (cond b (with_current 0 None (record { table = plain r serials next current hold ws; orders = orders; notes = notes })) (record { table = plain r serials next current hold ws; orders = orders; notes = notes })).table 0)) (with_hold 0 Nobody (cond b (with_current 0 None (record { table = plain r serials next current hold ws; orders = orders; notes = notes })) (record { table = plain r serials next current hold ws; orders = orders; notes = notes }))) (cond b (with_current 0 None (record { table = plain r serials next current hold ws; orders = orders; notes = notes })) (record { table = plain r serials next current hold ws; orders = orders; notes = notes }))).table
      by true = stays (with_current 0 None (record { table = plain r serials next current hold ws; orders = orders; notes = notes })) (made_current current hold ws orders notes None)
      by false = stays (record { table = plain r serials next current hold ws; orders = orders; notes = notes }) (record { current = current; hold = hold; is = refl; held = refl })

  -- the same of a step that has come to such a table
  pub current_at : (free : Bool) (ws : List Window) (new : Option ℕ) (step : Step) → IsAt free ws step.table → IsAt free ws (with_current 0 new step).table
  current_at free ws new step at =
      subst (λ (t : Table). IsAt free ws (with_current 0 new (record { table = t; orders = step.orders; notes = step.notes })).table) (sym at.is)
      (subst (λ (b : Bool). IsAt b ws (with_current 0 new (record { table = plain r serials next at.current at.hold ws; orders = step.orders; notes = step.notes })).table) at.held
      (made_current at.current at.hold ws step.orders step.notes new))

  pub gone_at : (ws : List Window) (serial : ℕ) (step : Step) → IsAt true ws step.table → IsAt true ws (retired 0 serial step).table
  gone_at ws serial step at =
      subst (λ (t : Table). IsAt true ws (retired 0 serial (record { table = t; orders = step.orders; notes = step.notes })).table) (sym at.is)
      (retired_at at.current at.hold ws step.orders step.notes serial at.held)

-- ---- its windows

-- what holds of the windows of a table with no rio but the root's
pub record AreOwn (table : Table) : Type 0 where
  pub root : Each (λ w. w.host ≡ 0) table.windows
  pub own : Each (λ w. w.number ≡ w.serial) table.windows
  pub counted : Each (λ w. 0 < w.serial) table.windows
  pub held : IfHeld table.root.hold (λ serial. 0 < serial)

housed_root : (table : Table) (host : ℕ) → table.root.host ≡ 0 → table.rios ≡ [] → is_host table host ≡ true → host ≡ 0
housed_root table host root alone is = sym (eqb-true 0 host (by (0 == host) refl))
  where
    here : is_host table host ≡ is_host (plain table.r table.serials table.root.next table.root.current table.root.hold table.windows) host
    here = ap (λ (t : Table). is_host t host) (plain_is table root alone)

    by : (b : Bool) → (0 == host) ≡ b → b ≡ true
    by true e = refl
    by false e = sym (rw e refl) ∙ sym here ∙ is

held_counted : (table : Table) → IsSound table → IfHeld table.root.hold (λ serial. 0 < serial)
held_counted table sound = by table.root.hold (All-head (IsSoundRio table.windows) table.root table.rios sound.rios).hold
  where
    by : (hold : Hold) → IfHeld hold (IsSeenIn table.windows table.root.host) → IfHeld hold (λ serial. 0 < serial)
    by (Held serial) seen = found (window_in table.windows serial) refl seen
      where
        found : (o : Option Window) → window_in table.windows serial ≡ o → IsSomeAnd o (λ w. (w.host ≡ table.root.host) × (w.hidden ≡ false)) → 0 < serial
        found (Some w) is seen = subst (λ n. 0 < n) (eqb-true w.serial serial (find-passes (λ (v : Window). v.serial == serial) table.windows w is))
            (each_found (IsSoundWindow table) (λ (v : Window). v.serial == serial) table.windows w (each_of (IsSoundWindow table) table.windows sound.windows) is).counted
        found None is seen = absurd seen
    by Free seen = tt
    by Nobody seen = tt

pub are_own : (d : Desk) (table : Table) → Follows d table → AreOwn table
are_own d table is =
    let each = each_of (IsSoundWindow table) table.windows is.sound.windows in
    record {
      root = each_then (IsSoundWindow table) (λ w. w.host ≡ 0) (λ w sound. housed_root table w.host is.sound.root is.alone sound.housed) table.windows each;
      own = each_of (λ w. w.number ≡ w.serial) table.windows is.own;
      counted = each_then (IsSoundWindow table) (λ w. 0 < w.serial) (λ w sound. sound.counted) table.windows each;
      held = held_counted table is.sound;
    }

-- the windows of a table follow a desk's
pub follows_at : (r : Rect) (serials next : ℕ) (free : Bool) (ws : List Window) (d : Desk) (table : Table) → IsSound table → IsAt r serials next free ws table → Each (λ w. w.number ≡ w.serial) ws
    → seen_panes ws ≡ d.visible → ((number : ℕ) → pane_by number (hidden_panes ws) ≡ pane_by number d.hidden) → length (hidden_panes ws) ≡ length d.hidden
    → next ≡ d.next → serials + 1 ≡ d.next → free ≡ is_over d.mode d.last → Follows d table
follows_at r serials next free ws d table sound at own visible hidden count numbered given hold =
    let same : table.windows ≡ ws = ap (λ (t : Table). t.windows) at.is in
    record {
      sound = sound;
      alone = ap (λ (t : Table). t.rios) at.is;
      own = subst (λ (vs : List Window). All (λ w. w.number ≡ w.serial) vs) (sym same) (all_of (λ w. w.number ≡ w.serial) ws own);
      visible = ap seen_panes same ∙ visible;
      hidden = λ number. ap (λ (vs : List Window). pane_by number (hidden_panes vs)) same ∙ hidden number;
      count = ap (λ (vs : List Window). length (hidden_panes vs)) same ∙ count;
      next = ap (λ (t : Table). t.root.next) at.is ∙ numbered;
      given = ap (λ (t : Table). t.serials + 1) at.is ∙ given;
      hold = ap (λ (t : Table). is_free t.root.hold) at.is ∙ at.held ∙ hold;
    }
