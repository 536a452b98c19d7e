-- Each act keeps a table sound.
use Rattle.std.proofs.Common.{◌≡◌, ◌∙◌, ℕ, zero, suc, ◌+◌, ◌<◌, ◌≤◌, Bool, true, false, List, [], Some, Ok, refl, sym, ap, subst, arith}
use Rattle.std.proofs.lemmas.Option.{same_Some}
use Rattle.std.proofs.lemmas.List.Elements.{All-nil, All-cons}
use Rattle.r9_geom.specs.declared.Rect.{Rect}
use Rattle.model_files.specs.declared.wctl.Choice.{Choice}
use Rattle.model_files.specs.wctl.Command.{Wctl}
use Rattle.model_files.specs.wctl.Command as wctl
use Rattle.model_files.specs.wctl.Rectangle.{applied}
use Rattle.model_rio.specs.rio.Table.{Window, Rio, Table, opened, no_windows, rio_of, window_of, rectangle_of, deepest}
use Rattle.model_rio.specs.rio.Act.{Act}
use Rattle.model_rio.specs.rio.Act as act
use Rattle.model_rio.specs.rio.Step.{Step, begun}
use Rattle.model_rio.specs.rio.Routing.{focus, keys_of}
use Rattle.model_rio.specs.rio.Rio.{is_full, new_window, new_in, first_rectangle, moved_by, commanded, command_to, rio}
use Rattle.model_rio.specs.rio.Sound.{window_in, IsNested, IsSoundWindow, IsSoundRio, IsSound}
use Rattle.model_rio.proofs.rio.Refusals.{same_Ok, refuse_ok, value_ok}
use Rattle.model_rio.proofs.rio.Puts.{has_serial}
use Rattle.model_rio.proofs.rio.Tables.{found_sound}
use Rattle.model_rio.proofs.rio.Inputs.{moused-sound, keyed-table}
use Rattle.model_rio.proofs.rio.Makings.{Stands, made_sound, room_from, raised_sound, lowered_sound, shown-sound, hidden-sound, made_current-sound, hosted-sound}
use Rattle.model_rio.proofs.rio.Movings.{moved_by-moved, resized-sound}
use Rattle.model_rio.proofs.rio.Goings.{MayGo, deleted-left}

pub opened_sound : (r : Rect) → IsSound (opened r)
opened_sound r = record {
  root = refl;
  few = omega arith;
  serials = λ i j d before within. absurd (omega arith);
  hosts = λ i j d before within. absurd (omega arith);
  windows = All-nil (IsSoundWindow (opened r));
  numbers = λ i j d before within. absurd (omega arith);
  next = All-cons (λ (rio : Rio). rio.next ≤ 1) (no_windows 0) [] (omega arith) (All-nil (λ (rio : Rio). rio.next ≤ 1));
  rios = All-cons (IsSoundRio []) (no_windows 0) [] (record { nested = (0, omega arith, refl); current = tt; hold = tt }) (All-nil (IsSoundRio []));
}

new_in-sound : (host : ℕ) (options : List Choice) (hide : Bool) (step out : Step) → IsSound step.table → new_in host options hide step ≡ Ok out → IsSound out.table
unfolding new_in
new_in-sound host options hide step out ok e =
    let home = value_ok (rio_of step.table host) 42 _ out e in
    let place = value_ok (applied false options (first_rectangle (rectangle_of step.table host))) 47 _ out home.2 in
    let room = refuse_ok (is_full step.table) 49 _ out place.2 in
    let w = new_window step.table host home.0.next hide place.0 in
    subst (λ s. IsSound s.table) (same_Ok _ out room.1) (made_sound w home.0 step ok (omega arith) (room_from step.table room.0).0 (room_from step.table room.0).1 home.1 refl)

moved_by-sound : (keep : Bool) (options : List Choice) (w : Window) (step out : Step) → IsSound step.table → Stands w step → moved_by keep options w step ≡ Ok out → IsSound out.table
moved_by-sound keep options w step out ok stands e = (moved_by-moved keep options w step out ok (rw stands refl) e).sound

-- a window of the table may go
pub may_go : (w : Window) (step : Step) → IsSound step.table → Stands w step → MayGo deepest step.table.windows w
may_go w step ok stands = record {
  counted = counted;
  only = λ v e. ap (λ z. z.host) (same_Some v w (sym e ∙ stands));
  deep = deep;
}
  where
    counted : 0 < w.serial
    counted = (found_sound step.table ok w.serial w stands).counted

    deep : (depth : ℕ) → IsNested step.table.windows depth w.serial → 10 ≤ 9 + depth
    deep zero is = absurd (omega (arith, is, counted))
    deep (suc depth) is = omega arith

commanded-sound : (what : Wctl) (w : Window) (step out : Step) → IsSound step.table → Stands w step → commanded what w step ≡ Ok out → IsSound out.table
commanded-sound (wctl.New options hide) w step out ok stands e = new_in-sound w.host options hide step out ok e
commanded-sound (wctl.Resize options) w step out ok stands e = moved_by-sound false options w step out ok stands e
commanded-sound (wctl.Move options) w step out ok stands e = moved_by-sound true options w step out ok stands e
commanded-sound wctl.Top w step out ok stands e = subst (λ s. IsSound s.table) (same_Ok _ out e) (raised_sound w step ok stands)
commanded-sound wctl.Bottom w step out ok stands e = subst (λ s. IsSound s.table) (same_Ok _ out e) (lowered_sound w step ok stands)
commanded-sound wctl.Hide w step out ok stands e = subst (λ s. IsSound s.table) (same_Ok _ out e) (hidden-sound w step ok stands)
commanded-sound wctl.Unhide w step out ok stands e = subst (λ s. IsSound s.table) (same_Ok _ out e) (shown-sound w step ok stands)
commanded-sound wctl.Current w step out ok stands e = subst (λ s. IsSound s.table) (same_Ok _ out e) (made_current-sound w step ok stands)
commanded-sound wctl.Delete w step out ok stands e = subst (λ s. IsSound s.table) (same_Ok _ out e) (deleted-left deepest w step ok (may_go w step ok stands)).sound
commanded-sound (wctl.Scroll scrolls) w step out ok stands e = subst (λ s. IsSound s.table) (same_Ok step out e) ok
commanded-sound wctl.Set w step out ok stands e = subst (λ s. IsSound s.table) (same_Ok step out e) ok
commanded-sound wctl.Host w step out ok stands e = hosted-sound w step out ok stands e

-- a window that is found stands under its serial
pub found_stands : (step : Step) (serial : ℕ) (w : Window) → IsSound step.table → window_of step.table serial ≡ Some w → Stands w step
found_stands step serial w ok e = ap (window_in step.table.windows) (has_serial step.table.windows serial w e) ∙ e

command_to-sound : (serial : ℕ) (what : Wctl) (step out : Step) → IsSound step.table → command_to serial what step ≡ Ok out → IsSound out.table
unfolding command_to
command_to-sound serial what step out ok e =
    let found = value_ok (window_of step.table serial) 42 _ out e in
    commanded-sound what found.0 step out ok (found_stands step serial found.0 ok found.1) found.2

pub step_sound : (table : Table) (a : Act) (out : Step) → IsSound table → rio table a ≡ Ok out → IsSound out.table
step_sound table (act.New host options hide) out ok e = new_in-sound host options hide (begun table) out ok e
step_sound table (act.Command window what) out ok e = command_to-sound window what (begun table) out ok e
step_sound table (act.Mouse pointer) out ok e = subst (λ s. IsSound s.table) (same_Ok _ out e) (moused-sound deepest pointer 0 (begun table) ok)
step_sound table (act.Keys bytes) out ok e =
    subst (λ s. IsSound s.table) (same_Ok _ out e) (subst IsSound (sym (keyed-table (focus deepest table 0) (keys_of bytes) (begun table))) ok)
step_sound table (act.Gone window) out ok e = command_to-sound window wctl.Delete (begun table) out ok e
step_sound table (act.Size width height) out ok e = resized-sound width height (begun table) out ok e
