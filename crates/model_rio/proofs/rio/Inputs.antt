-- The current window, the hold, and events of the mouse keep a table sound.
use Rattle.std.proofs.Common.{◌≡◌, ◌∙◌, ℕ, zero, suc, ◌==◌, ◌&&◌, Bool, true, false, cond, not, List, [], ◌∷◌, Option, Some, None, option_map, IfSome, refl, sym, ap, subst, eq-eqb, eqb-true}
use Rattle.std.specs.Option.{option_and_then, option_map_or}
use Rattle.std.proofs.lemmas.Bool.{cond_both, not-true}
use Rattle.r9_geom.specs.declared.Point.{Point}
use Rattle.r9_geom.specs.Geometry.{holds}
use Rattle.r9_event.specs.declared.event.rio.Note.TheVariants as note
use Rattle.r9_event.specs.declared.event.rio.Order.TheVariants as order
use Rattle.model_files.specs.declared.mouse.Mouse.{Mouse}
use Rattle.model_rio.specs.rio.Table.{Window, Rio, Table, Hold, Free, Held, Nobody, rio_of, is_host, topmost, current_of, hold_of}
use Rattle.model_rio.specs.rio.Step.{Step, ordered, noted, with_windows, with_rio, with_hold, with_current, told_current, is_same, is_held, not_current, retired, raised, changed}
use Rattle.model_rio.specs.rio.Routing.{moused, reacted, given, pressed, point_of, receiver, keyed}
use Rattle.model_rio.specs.rio.Sound.{window_in, IsSeenIn, IfHeld, IsSound}
use Rattle.model_rio.proofs.rio.Lookups.{own, find-all, find-passes, of_found}
use Rattle.model_rio.proofs.rio.RioLaws.{hit}
use Rattle.model_rio.proofs.rio.Puts.{itself, numbers_raised, IsPut-raised}
use Rattle.model_rio.proofs.rio.Tables.{rios_of, rios_sound, rio_changed, shown_sound}

-- ---- the current window

pub told_current-table : (o : Option ℕ) (is : Bool) (step : Step) → (told_current o is step).table ≡ step.table
told_current-table None is step = refl
told_current-table (Some serial) is step = refl

told_table : (old new : Option ℕ) (step : Step) → (told_current new true (told_current old false step)).table ≡ step.table
told_table old new step = told_current-table new true (told_current old false step) ∙ told_current-table old false step

abbrev current_to : Option ℕ → Rio → Rio
current_to new rio = record rio { current = new }

-- the table where another window is current
pub with_current-table : (host : ℕ) (new : Option ℕ) (step : Step) → is_same (current_of step.table host) new ≡ false
    → (with_current host new step).table ≡ (with_rio host (current_to new) step).table
unfolding with_current
with_current-table host new step other = rw other (told_table (current_of step.table host) new (with_rio host (current_to new) step))

pub with_current-idle : (host : ℕ) (new : Option ℕ) (step : Step) → is_same (current_of step.table host) new ≡ true → with_current host new step ≡ step
unfolding with_current
with_current-idle host new step same = rw same refl

-- what holds of both tables
pub with_current-both : (P : Table → Type 0) (host : ℕ) (new : Option ℕ) (step : Step) → P step.table → P (with_rio host (current_to new) step).table → P (with_current host new step).table
with_current-both P host new step stays becomes = by_test (is_same (current_of step.table host) new) refl
  where
    by_test : (b : Bool) → is_same (current_of step.table host) new ≡ b → P (with_current host new step).table
    by_test true e = subst (λ s. P s.table) (sym (with_current-idle host new step e)) stays
    by_test false e = subst P (sym (with_current-table host new step e)) becomes

pub with_current-windows : (host : ℕ) (new : Option ℕ) (step : Step) → (with_current host new step).table.windows ≡ step.table.windows
with_current-windows host new step = with_current-both (λ table. table.windows ≡ step.table.windows) host new step refl refl

pub current_sound : (host : ℕ) (new : Option ℕ) (step : Step) → IsSound step.table → IfSome new (IsSeenIn step.table.windows host) → IsSound (with_current host new step).table
current_sound host new step ok seen =
    with_current-both IsSound host new step ok
    (rios_sound host (current_to new) (λ rio. refl) (λ rio. refl) step.table ok
    (λ rio same is. record { nested = is.nested; current = subst (λ at. IfSome new (IsSeenIn step.table.windows at)) (sym same) seen; hold = is.hold }))

-- ---- the hold

pub hold_sound : (host : ℕ) (hold : Hold) (step : Step) → IsSound step.table → IfHeld hold (IsSeenIn step.table.windows host) → IsSound (with_hold host hold step).table
hold_sound host hold step ok seen =
    rios_sound host (λ rio. record rio { hold = hold }) (λ rio. refl) (λ rio. refl) step.table ok
    (λ rio same is. record { nested = is.nested; current = is.current; hold = subst (λ at. IfHeld hold (IsSeenIn step.table.windows at)) (sym same) seen })

-- ---- a window that is hidden or goes

pub not_current-sound : (host serial : ℕ) (step : Step) → IsSound step.table → IsSound (not_current host serial step).table
not_current-sound host serial step ok =
    cond_both (is_same (current_of step.table host) (Some serial)) (with_current host None step) step (λ s. IsSound s.table) (λ _. current_sound host None step ok tt) (λ _. ok)

pub retired-sound : (host serial : ℕ) (step : Step) → IsSound step.table → IsSound (retired host serial step).table
unfolding retired
retired-sound host serial step ok =
    cond_both (is_held serial (hold_of (not_current host serial step).table host)) (with_hold host Nobody (not_current host serial step)) (not_current host serial step) (λ s. IsSound s.table)
    (λ _. hold_sound host Nobody (not_current host serial step) (not_current-sound host serial step ok) tt) (λ _. not_current-sound host serial step ok)

pub not_current-windows : (host serial : ℕ) (step : Step) → (not_current host serial step).table.windows ≡ step.table.windows
not_current-windows host serial step =
    cond_both (is_same (current_of step.table host) (Some serial)) (with_current host None step) step (λ s. s.table.windows ≡ step.table.windows) (λ _. with_current-windows host None step) (λ _. refl)

pub retired-windows : (host serial : ℕ) (step : Step) → (retired host serial step).table.windows ≡ step.table.windows
unfolding retired
retired-windows host serial step =
    cond_both (is_held serial (hold_of (not_current host serial step).table host)) (with_hold host Nobody (not_current host serial step)) (not_current host serial step) (λ s. s.table.windows ≡ step.table.windows)
    (λ _. not_current-windows host serial step) (λ _. not_current-windows host serial step)

-- no current window, in the rio that there may be
none_now : (host : ℕ) (o : Option Rio) (serial : ℕ) → ((rio : Rio) → o ≡ Some rio → rio.host ≡ host) → is_same (option_and_then (λ rio. rio.current) (option_map (changed host (current_to None)) o)) (Some serial) ≡ false
none_now host None serial hosts = refl
none_now host (Some rio) serial hosts = rw (eq-eqb rio.host host (hosts rio refl)) refl

rio_host : (table : Table) (host : ℕ) (rio : Rio) → rio_of table host ≡ Some rio → rio.host ≡ host
rio_host table host rio e = eqb-true rio.host host (find-passes (λ (r : Rio). r.host == host) (rios_of table) rio e)

-- what was current is not, once a window is not current any more
pub not_current-current : (host serial : ℕ) (step : Step) → is_same (current_of (not_current host serial step).table host) (Some serial) ≡ false
not_current-current host serial step = by_test (is_same (current_of step.table host) (Some serial)) refl
  where
    was : (o : Option ℕ) → is_same o (Some serial) ≡ true → is_same o None ≡ false
    was (Some x) e = refl
    was None e = absurd (let f : false ≡ true = e in cc)

    by_test : (b : Bool) → is_same (current_of step.table host) (Some serial) ≡ b → is_same (current_of (cond b (with_current host None step) step).table host) (Some serial) ≡ false
    by_test false e = e
    by_test true e =
        ap (λ table. is_same (current_of table host) (Some serial)) (with_current-table host None step (was (current_of step.table host) e))
        ∙ ap (λ o. is_same (option_and_then (λ rio. rio.current) o) (Some serial)) (rio_changed host (current_to None) (λ rio. refl) step.table host)
        ∙ none_now host (rio_of step.table host) serial (rio_host step.table host)

abbrev hold_to : Hold → Rio → Rio
hold_to hold rio = record rio { hold = hold }

-- another hold leaves what is current
same_current : (host : ℕ) (hold : Hold) (o : Option Rio) → option_and_then (λ rio. rio.current) (option_map (changed host (hold_to hold)) o) ≡ option_and_then (λ rio. rio.current) o
same_current host hold None = refl
same_current host hold (Some rio) = cond_both (rio.host == host) (hold_to hold rio) rio (λ z. z.current ≡ rio.current) (λ _. refl) (λ _. refl)

hold_current : (host : ℕ) (hold : Hold) (step : Step) → current_of (with_hold host hold step).table host ≡ current_of step.table host
hold_current host hold step =
    ap (λ o. option_and_then (λ rio. rio.current) o) (rio_changed host (hold_to hold) (λ rio. refl) step.table host) ∙ same_current host hold (rio_of step.table host)

nobody_now : (host : ℕ) (o : Option Rio) (serial : ℕ) → ((rio : Rio) → o ≡ Some rio → rio.host ≡ host) → is_held serial (option_map_or (λ rio. rio.hold) (option_map (changed host (hold_to Nobody)) o) Free) ≡ false
nobody_now host None serial hosts = refl
nobody_now host (Some rio) serial hosts = rw (eq-eqb rio.host host (hosts rio refl)) refl

-- after a window is hidden or deleted it is not current, and does not hold the mouse
pub retired-current : (host serial : ℕ) (step : Step) → is_same (current_of (retired host serial step).table host) (Some serial) ≡ false
unfolding retired
retired-current host serial step =
    let idle = not_current host serial step in
    cond_both (is_held serial (hold_of idle.table host)) (with_hold host Nobody idle) idle (λ s. is_same (current_of s.table host) (Some serial) ≡ false)
    (λ _. ap (λ o. is_same o (Some serial)) (hold_current host Nobody idle) ∙ not_current-current host serial step) (λ _. not_current-current host serial step)

pub retired-hold : (host serial : ℕ) (step : Step) → is_held serial (hold_of (retired host serial step).table host) ≡ false
unfolding retired
retired-hold host serial step =
    let idle = not_current host serial step in
    cond_both (is_held serial (hold_of idle.table host)) (with_hold host Nobody idle) idle (λ s. is_held serial (hold_of s.table host) ≡ false)
    (λ _. ap (λ o. is_held serial (option_map_or (λ rio. rio.hold) o Free)) (rio_changed host (hold_to Nobody) (λ rio. refl) idle.table host) ∙ nobody_now host (rio_of idle.table host) serial (rio_host idle.table host))
    (λ e. e)

-- ---- events of the mouse

-- the window that a press raises is in the rio, is seen, and stands in the table
pub topmost_own : (table : Table) → IsSound table → (host : ℕ) (p : Point) (w : Window) → topmost table host p ≡ Some w → (window_in table.windows w.serial ≡ Some w) × (w.host ≡ host) × (w.hidden ≡ false)
topmost_own table ok host p w e =
    let is = hit host p table.windows w e in
    (find-all (λ v. window_in table.windows v.serial ≡ Some v) (λ (v : Window). (v.host == host) && not v.hidden && holds v.r p) table.windows w (own (λ v. v.serial) table.windows ok.serials) e, eqb-true w.host host is.0, not-true w.hidden is.1)

pub pressed-sound : (host : ℕ) (p : Point) (top : Option Window) (step : Step) → topmost step.table host p ≡ top → IsSound step.table → IsSound (pressed host top step).table
pressed-sound host p None step e ok = hold_sound host Nobody step ok tt
pressed-sound host p (Some w) step e ok =
    let is = topmost_own step.table ok host p w e in
    let put = IsPut-raised w w step.table.windows is.0 in
    let up : Step = ordered (order.Raise w.serial) (with_windows (raised w) step) in
    let sound : IsSound up.table = shown_sound w w (raised w step.table.windows) step.table ok is.0 (itself w) (λ hidden. hidden) put (numbers_raised w w step.table.windows is.0 (itself w) ok.numbers) in
    let seen : IsSeenIn (raised w step.table.windows) host w.serial = of_found (window_in (raised w step.table.windows) w.serial) (λ v. (v.host ≡ host) × (v.hidden ≡ false)) w put.at (is.1, is.2) in
    let next : Step = with_current host (Some w.serial) up in
    hold_sound host (Held w.serial) next (current_sound host (Some w.serial) up sound seen) (subst (λ ws. IsSeenIn ws host w.serial) (sym (with_current-windows host (Some w.serial) up)) seen)

pub reacted-sound : (e : Mouse) (host : ℕ) (step : Step) → IsSound step.table → IsSound (reacted e host step).table
unfolding reacted
reacted-sound e host step ok = by_hold (hold_of step.table host) (e.buttons == 0) refl refl
  where
    by_hold : (hold : Hold) (released : Bool) → hold_of step.table host ≡ hold → (e.buttons == 0) ≡ released → IsSound (reacted e host step).table
    by_hold Free true is up = rw (is, up) ok
    by_hold Free false is up = rw (is, up) (pressed-sound host (point_of e) (topmost step.table host (point_of e)) step refl ok)
    by_hold (Held serial) true is up = rw (is, up) (hold_sound host Free step ok tt)
    by_hold Nobody true is up = rw (is, up) (hold_sound host Free step ok tt)
    by_hold (Held serial) false is up = rw (is, up) ok
    by_hold Nobody false is up = rw (is, up) ok

pub given-sound : (pass : ℕ → Step → Step) → ((host : ℕ) (step : Step) → IsSound step.table → IsSound (pass host step).table)
    → (e : Mouse) (to : Option ℕ) (step : Step) → IsSound step.table → IsSound (given pass e to step).table
given-sound pass keeps e None step ok = ok
given-sound pass keeps e (Some serial) step ok = by_test (is_host step.table serial) refl
  where
    by_test : (b : Bool) → is_host step.table serial ≡ b → IsSound (given pass e (Some serial) step).table
    by_test true is = rw is (keeps serial step ok)
    by_test false is = rw is ok

pub moused-sound : (levels : ℕ) (e : Mouse) (host : ℕ) (step : Step) → IsSound step.table → IsSound (moused levels e host step).table
unfolding moused
moused-sound zero e host step ok = ok
moused-sound (suc levels) e host step ok =
    given-sound (moused levels e) (moused-sound levels e) e (receiver step.table e host (hold_of step.table host)) (reacted e host step) (reacted-sound e host step ok)

-- ---- keys

pub keyed-table : (to : Option ℕ) (keys : List (List ℕ)) (step : Step) → (keyed to keys step).table ≡ step.table
keyed-table None keys step = refl
keyed-table (Some serial) [] step = refl
keyed-table (Some serial) (key ∷ keys) step = keyed-table (Some serial) keys (noted serial (note.Key key) step)
