-- The orders of each act fit, one after the other.
use Rattle.std.proofs.Common.{◌≡◌, ℕ, zero, suc, Bool, true, false, List, [], ◌∷◌, ◌++◌, length, Option, Some, None, Ok, refl, sym, ap, subst, ◌∙◌, arith, length-append}
use Rattle.std.specs.Prelude.{◌==◌}
use Rattle.std.specs.Option.{option_map_or}
use Rattle.r9_event.specs.declared.event.rio.Note.TheVariants as note
use Rattle.model_text.specs.text.Outcome.{Outcome}
use Rattle.model_files.specs.declared.mouse.Mouse.{Mouse}
use Rattle.model_files.specs.wctl.Command.{Wctl}
use Rattle.model_files.specs.wctl.Command as wctl
use Rattle.model_rio.specs.rio.Table.{Window, Table, Hold, Free, Held, Nobody, deepest, hold_of, is_host, path_of, path_up, topmost, window_of}
use Rattle.model_rio.specs.rio.Act.{Act}
use Rattle.model_rio.specs.rio.Act as act
use Rattle.model_rio.specs.rio.Step.{Step, begun, noted, with_current}
use Rattle.model_rio.specs.rio.Moving.{deleted}
use Rattle.model_rio.specs.rio.Routing.{focus, given, keyed, keys_of, moused, point_of, pressed, reacted, receiver}
use Rattle.model_rio.specs.rio.Rio.{command_to, commanded, hidden, made_current, rio, shown, to_bottom, to_top}
use Rattle.model_rio.specs.rio.Sound.{IsSound, IsSoundWindow, window_in}
use Rattle.model_rio.proofs.rio.Paths.{path_whole}
use Rattle.model_draw.specs.draw.World.{World}
use Rattle.law_shown.specs.shown.Showing.{IsOrderly, ShowsRio, ShowsWindow}
use Rattle.law_shown.specs.fitting.Fitting.{FindsDisplay, IsSpelled, Shows}
use Rattle.law_shown.proofs.shown.Tests.{same_Ok, value_ok}
use Rattle.law_shown.proofs.fitting.Lists.{Each, apart_of, each_found, each_of, each_own, each_then}
use Rattle.law_shown.proofs.fitting.Stepping.{IsFit, current_fit, hold_fit, now, windows_of}
use Rattle.law_shown.proofs.fitting.Acting.{bottom_fit, hidden_fit, host_shown, hosted_fit, made_current_fit, moved_by_fit, new_in_fit, shown_fit, top_fit}
use Rattle.law_shown.proofs.fitting.Sizing.{resized_fit}
use Rattle.law_shown.proofs.fitting.Deleting.{IsRanked, deleted_goes}

-- ---- the mouse and the keys

pressed_fit : (device : World) (host : ℕ) (top : Option Window) (step : Step) → IsFit device step → ((w : Window) → top ≡ Some w → ShowsWindow (now device step) w.serial w.r) → IsFit device (pressed host top step)
pressed_fit device host None step fit stands = hold_fit device host Nobody step fit
pressed_fit device host (Some w) step fit stands =
    let up : Step = to_top w step in
    let next : Step = with_current host (Some w.serial) up in
    hold_fit device host (Held w.serial) next (current_fit device host (Some w.serial) up (top_fit device w step fit (stands w refl)))

reacted_fit : (device : World) (e : Mouse) (host : ℕ) (step : Step) → IsFit device step → IsFit device (reacted e host step)
unfolding reacted
reacted_fit device e host step fit = by_hold (hold_of step.table host) (e.buttons == 0) refl refl
  where
    stands : (w : Window) → topmost step.table host (point_of e) ≡ Some w → ShowsWindow (now device step) w.serial w.r
    stands w found = each_found (λ v. ShowsWindow (now device step) v.serial v.r) _ step.table.windows w (windows_of (now device step) step.table fit.shows) found

    by_hold : (hold : Hold) (released : Bool) → hold_of step.table host ≡ hold → (e.buttons == 0) ≡ released → IsFit device (reacted e host step)
    by_hold Free true at up = rw (at, up) fit
    by_hold Free false at up = rw (at, up) (pressed_fit device host (topmost step.table host (point_of e)) step fit stands)
    by_hold (Held serial) true at up = rw (at, up) (hold_fit device host Free step fit)
    by_hold Nobody true at up = rw (at, up) (hold_fit device host Free step fit)
    by_hold (Held serial) false at up = rw (at, up) fit
    by_hold Nobody false at up = rw (at, up) fit

given_fit : (device : World) (pass : ℕ → Step → Step) → ((host : ℕ) (step : Step) → IsFit device step → IsFit device (pass host step)) → (e : Mouse) (to : Option ℕ) (step : Step) → IsFit device step → IsFit device (given pass e to step)
given_fit device pass keeps e None step fit = fit
given_fit device pass keeps e (Some serial) step fit = by_test (is_host step.table serial) refl
  where
    by_test : (b : Bool) → is_host step.table serial ≡ b → IsFit device (given pass e (Some serial) step)
    by_test true at = rw at (keeps serial step fit)
    by_test false at = rw at fit

moused_fit : (device : World) (levels : ℕ) (e : Mouse) (host : ℕ) (step : Step) → IsFit device step → IsFit device (moused levels e host step)
unfolding moused
moused_fit device zero e host step fit = fit
moused_fit device (suc levels) e host step fit =
    given_fit device (moused levels e) (moused_fit device levels e) e (receiver step.table e host (hold_of step.table host)) (reacted e host step) (reacted_fit device e host step fit)

keyed_fit : (device : World) (to : Option ℕ) (keys : List (List ℕ)) (step : Step) → IsFit device step → IsFit device (keyed to keys step)
keyed_fit device None keys step fit = fit
keyed_fit device (Some serial) [] step fit = fit
keyed_fit device (Some serial) (key ∷ keys) step fit = keyed_fit device (Some serial) keys (noted serial (note.Key key) step) fit

-- ---- how deep windows are

abbrev depth_in : Table → ℕ → ℕ
depth_in table serial = length (path_of table serial)

more_length : (path : List ℕ) (n : ℕ) → length (path ++ n ∷ []) ≡ suc (length path)
more_length path n = let long = length-append path (n ∷ []) in omega (arith, long)

deeper : (table : Table) → IsSound table → (v : Window) → window_in table.windows v.serial ≡ Some v → IsRanked (depth_in table) v
unfolding path_up
deeper table ok v found =
    let whole = (path_whole table v.serial v ok found 10 (omega arith)).0 in
    let up : path_up 10 table v.serial ≡ path_up 9 table v.host ++ v.number ∷ [] = ap (λ (o : Option Window). option_map_or (λ w. path_up 9 table w.host ++ w.number ∷ []) o []) found in
    ap length (sym whole ∙ up) ∙ more_length (path_up 9 table v.host) v.number

ranked : (table : Table) → IsSound table → Each (IsRanked (depth_in table)) table.windows
ranked table ok = each_then (λ v. window_in table.windows v.serial ≡ Some v) (IsRanked (depth_in table)) (deeper table ok) table.windows (each_own table.windows (apart_of table.windows ok.serials))

-- ---- commands, and each act

done_fit : (device : World) (next out : Step) → IsFit device next → ◌≡◌ {A = Outcome Step} (Ok next) (Ok out) → IsFit device out
done_fit device next out fit e = subst (IsFit device) (same_Ok next out e) fit

commanded_fit : (device : World) (serial : ℕ) (what : Wctl) (w : Window) (step out : Step) → IsSound step.table → IsFit device step → IsSpelled (act.Command serial what) → ShowsWindow (now device step) w.serial w.r → ShowsRio (now device step) w.host
    → commanded what w step ≡ Ok out → IsFit device out
commanded_fit device serial (wctl.New options hide) w step out ok fit spelled stands home e = new_in_fit device w.host options hide step out fit e
commanded_fit device serial (wctl.Resize options) w step out ok fit spelled stands home e = moved_by_fit device false options w step out fit stands home (λ is. absurd cc) e
commanded_fit device serial (wctl.Move options) w step out ok fit spelled stands home e = moved_by_fit device true options w step out fit stands home (λ is. spelled) e
commanded_fit device serial wctl.Top w step out ok fit spelled stands home e = done_fit device (to_top w step) out (top_fit device w step fit stands) e
commanded_fit device serial wctl.Bottom w step out ok fit spelled stands home e = done_fit device (to_bottom w step) out (bottom_fit device w step fit stands) e
commanded_fit device serial wctl.Hide w step out ok fit spelled stands home e = done_fit device (hidden w step) out (hidden_fit device w step fit stands) e
commanded_fit device serial wctl.Unhide w step out ok fit spelled stands home e = done_fit device (shown w step) out (shown_fit device w step fit stands) e
commanded_fit device serial wctl.Current w step out ok fit spelled stands home e = done_fit device (made_current w step) out (made_current_fit device w step fit stands) e
commanded_fit device serial wctl.Delete w step out ok fit spelled stands home e =
    done_fit device (deleted deepest w step) out (deleted_goes device (depth_in step.table) deepest w step fit (ranked step.table ok) (apart_of step.table.windows ok.serials) stands).fit e
commanded_fit device serial (wctl.Scroll scrolls) w step out ok fit spelled stands home e = done_fit device step out fit e
commanded_fit device serial wctl.Set w step out ok fit spelled stands home e = done_fit device step out fit e
commanded_fit device serial wctl.Host w step out ok fit spelled stands home e = hosted_fit device w step out fit stands e

command_to_fit : (device : World) (serial : ℕ) (what : Wctl) (step out : Step) → IsSound step.table → IsFit device step → IsSpelled (act.Command serial what) → command_to serial what step ≡ Ok out → IsFit device out
unfolding command_to
command_to_fit device serial what step out ok fit spelled e =
    let found = value_ok (window_of step.table serial) 42 _ out e in
    let w = found.0 in
    let stands = each_found (λ v. ShowsWindow (now device step) v.serial v.r) (λ (v : Window). v.serial == serial) step.table.windows w (windows_of (now device step) step.table fit.shows) found.1 in
    let sound = each_found (IsSoundWindow step.table) (λ (v : Window). v.serial == serial) step.table.windows w (each_of (IsSoundWindow step.table) step.table.windows ok.windows) found.1 in
    commanded_fit device serial what w step out ok fit spelled stands (host_shown (now device step) step.table w.host fit.shows sound.housed) found.2

pub act_fits : (device : World) (table : Table) (a : Act) (out : Step) → IsSound table → IsOrderly device → Shows device table → IsSpelled a → FindsDisplay device a → rio table a ≡ Ok out → IsFit device out
act_fits device table a out ok orderly shows = by a
  where
    first : IsFit device (begun table)
    first = record { all = tt; before = tt; orderly = orderly; shows = shows }

    by : (a : Act) → IsSpelled a → FindsDisplay device a → rio table a ≡ Ok out → IsFit device out
    by (act.New host options hide) spelled finds e = new_in_fit device host options hide (begun table) out first e
    by (act.Command window what) spelled finds e = command_to_fit device window what (begun table) out ok first spelled e
    by (act.Mouse pointer) spelled finds e = done_fit device (moused deepest pointer 0 (begun table)) out (moused_fit device deepest pointer 0 (begun table) first) e
    by (act.Keys bytes) spelled finds e = done_fit device (keyed (focus deepest table 0) (keys_of bytes) (begun table)) out (keyed_fit device (focus deepest table 0) (keys_of bytes) (begun table) first) e
    by (act.Gone window) spelled finds e = command_to_fit device window wctl.Delete (begun table) out ok first tt e
    by (act.Size width height) spelled finds e = resized_fit device width height (begun table) out first spelled.0 spelled.1 finds e
