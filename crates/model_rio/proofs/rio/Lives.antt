-- An act takes no window away and makes none without a note to it.
use Rattle.std.proofs.Common.{◌≡◌, ◌∙◌, ℕ, zero, suc, pos, ◌==◌, ◌&&◌, ◌||◌, Bool, true, false, cond, not, List, [], ◌∷◌, ◌++◌, find, fold, reverse, length, nat_le, Option, Some, None, is_some, option_map, Ok, Err, refl, sym, ap, subst, eq-eqb, eqb-true}
use Rattle.std.proofs.lemmas.Bool.{eqb-false, cond_both}
use Rattle.std.proofs.lemmas.List.Folds.{list_any-append}
use Rattle.r9_geom.specs.declared.Rect.{Rect}
use Rattle.r9_geom.specs.declared.Point.{Point}
use Rattle.r9_geom.specs.Geometry.{holds, shifted}
use Rattle.r9_event.specs.window.Ways.{way}
use Rattle.r9_event.specs.declared.event.rio.Note.{Note}
use Rattle.r9_event.specs.declared.event.rio.Note.TheVariants as note
use Rattle.r9_event.specs.declared.event.rio.Order.TheVariants as order
use Rattle.model_text.specs.text.Outcome.{Outcome}
use Rattle.model_files.specs.declared.mouse.Mouse.{Mouse}
use Rattle.model_files.specs.declared.wctl.Choice.{Choice}
use Rattle.model_files.specs.wctl.Command.{Wctl}
use Rattle.model_files.specs.wctl.Command as wctl
use Rattle.model_files.specs.wctl.Rectangle.{applied, box, is_near}
use Rattle.model_rio.specs.rio.Table.{Window, Table, Hold, Free, Held, Nobody, rio_of, window_of, path_of, name_by, rectangle_of, is_host, windows_in, made_in, deepest, current_of, hold_of, topmost}
use Rattle.model_rio.specs.rio.Act.{Act}
use Rattle.model_rio.specs.rio.Act as act
use Rattle.model_rio.specs.rio.Step.{Step, begun, ordered, noted, with_rio, with_hold, with_windows, with_current, told_current, in_place, without, raised, lowered, is_same, is_held, not_current, retired}
use Rattle.model_rio.specs.rio.Moving.{next_name, renewed, replaced, each, carried, followed, moved, forgotten, dropped, deleted}
use Rattle.model_rio.specs.rio.Routing.{moused, reacted, given, pressed, point_of, receiver, focus, keyed, keys_of}
use Rattle.model_rio.specs.rio.Rio.{is_full, new_window, entered, made, new_in, first_rectangle, hidden, shown, to_top, to_bottom, made_current, hosted, moved_by, windows_off, to_corner, resized, commanded, command_to, outside, rio}
use Rattle.model_rio.specs.rio.Sound.{window_in}
use Rattle.model_rio.specs.rio.Notes.{is_told}
use Rattle.model_rio.proofs.rio.Refusals.{same_Ok, refuse_ok, value_ok, then_ok}
use Rattle.model_rio.proofs.rio.RioLaws.{same_serial}
use Rattle.model_rio.proofs.rio.Lookups.{find-map}
use Rattle.model_rio.proofs.rio.Puts.{IsPut, IsPut-raised, IsPut-lowered, found_other}

abbrev lives : List Window → ℕ → Bool
lives ws serial = is_some (window_in ws serial)

-- each window that no note of a step is to lives where it lived at first
abbrev Keeps : Table → Step → Type 0
Keeps table step = (window : ℕ) → is_told window step.notes ≡ false → lives step.table.windows window ≡ lives table.windows window

-- ---- notes

or_parts : (a b : Bool) → (a || b) ≡ false → (a ≡ false) × (b ≡ false)
or_parts false b e = (refl, e)
or_parts true b e = absurd cc

pub told_parts : (window : ℕ) (notes more : List (ℕ × Note)) → is_told window (notes ++ more) ≡ false → (is_told window notes ≡ false) × (is_told window more ≡ false)
told_parts window notes more e =
    or_parts (is_told window notes) (is_told window more) (sym (list_any-append (λ (told : ℕ × Note). told.0 == window) notes more) ∙ e)

-- who is told alone
told_one : (window serial : ℕ) (n : Note) → is_told window ((serial, n) ∷ []) ≡ false → (serial == window) ≡ false
told_one window serial n e = (or_parts (serial == window) false e).0

noted_keeps : (table : Table) (serial : ℕ) (n : Note) (step : Step) → Keeps table step → Keeps table (noted serial n step)
noted_keeps table serial n step keeps window e = keeps window (told_parts window step.notes ((serial, n) ∷ []) e).0

-- what is done to the one window that is told
own_keeps : (table : Table) (serial : ℕ) (n : Note) (step next : Step) → next.notes ≡ step.notes
    → ((window : ℕ) → (serial == window) ≡ false → lives next.table.windows window ≡ lives step.table.windows window)
    → Keeps table step → Keeps table (noted serial n next)
own_keeps table serial n step next same others keeps window e =
    let parts = told_parts window next.notes ((serial, n) ∷ []) e in
    others window (told_one window serial n parts.1) ∙ keeps window (sym (ap (is_told window) same) ∙ parts.0)

-- ---- windows in others' places

mapped_lives : {X : Type 0} (f : X → X) (o : Option X) → is_some (option_map f o) ≡ is_some o
mapped_lives f (Some x) = refl
mapped_lives f None = refl

in_place_lives : (w : Window) (ws : List Window) (serial : ℕ) → lives (in_place w ws) serial ≡ lives ws serial
in_place_lives w ws serial =
    let one : Window → Window = λ v. cond (v.serial == w.serial) w v in
    ap is_some (find-map (λ (v : Window). v.serial == serial) one (λ v. ap (λ n. n == serial) (same_serial (v.serial == w.serial) v w refl)) ws) ∙ mapped_lives one (window_in ws serial)

put_lives : (w : Window) (old new : List Window) → lives old w.serial ≡ true → IsPut w old new → (serial : ℕ) → lives new serial ≡ lives old serial
put_lives w old new there put serial = by (serial == w.serial) refl
  where
    by : (b : Bool) → (serial == w.serial) ≡ b → lives new serial ≡ lives old serial
    by true at =
        let same = eqb-true serial w.serial at in
        ap (λ (n : ℕ). lives new n) same ∙ ap is_some put.at ∙ sym there ∙ sym (ap (λ (n : ℕ). lives old n) same)
    by false at = ap is_some (put.others serial (eqb-false serial w.serial at))

some_of : {X : Type 0} (o : Option X) → is_some o ≡ true → (x : X) × (o ≡ Some x)
some_of (Some x) e = (x, refl)
some_of None e = absurd cc

raised_lives : (w : Window) (ws : List Window) → lives ws w.serial ≡ true → (serial : ℕ) → lives (raised w ws) serial ≡ lives ws serial
raised_lives w ws there serial =
    let found = some_of (window_in ws w.serial) there in put_lives w ws (raised w ws) there (IsPut-raised w found.0 ws found.1) serial

lowered_lives : (w : Window) (ws : List Window) → lives ws w.serial ≡ true → (serial : ℕ) → lives (lowered w ws) serial ≡ lives ws serial
lowered_lives w ws there serial =
    let found = some_of (window_in ws w.serial) there in put_lives w ws (lowered w ws) there (IsPut-lowered w found.0 ws found.1) serial

-- the window that another test finds lives
found_lives : (p : Window → Bool) (ws : List Window) (w : Window) → find p ws ≡ Some w → lives ws w.serial ≡ true
found_lives p [] w e = absurd cc
found_lives p (v ∷ ws) w e = by (p v) (found_lives p ws w) e
  where
    by : (b : Bool) → (find p ws ≡ Some w → lives ws w.serial ≡ true) → cond b (Some v) (find p ws) ≡ Some w → lives (v ∷ ws) w.serial ≡ true
    by true later e = let same : v ≡ w = cc in rw (eq-eqb v.serial w.serial (ap (λ (z : Window). z.serial) same)) refl
    by false later e = cond_both (v.serial == w.serial) (Some v) (window_in ws w.serial) (λ o. is_some o ≡ true) (λ _. refl) (λ _. later e)

-- ---- the current window

told_keeps : (table : Table) (o : Option ℕ) (is : Bool) (step : Step) → Keeps table step → Keeps table (told_current o is step)
told_keeps table None is step keeps = keeps
told_keeps table (Some serial) is step keeps = noted_keeps table serial (note.Current is) step keeps

current_keeps : (table : Table) (host : ℕ) (new : Option ℕ) (step : Step) → Keeps table step → Keeps table (with_current host new step)
unfolding with_current
current_keeps table host new step keeps =
    let old = current_of step.table host in
    let next : Step = with_rio host (λ rio. record rio { current = new }) step in
    cond_both (is_same old new) step (told_current new true (told_current old false next)) (Keeps table) (λ _. keeps)
    (λ _. told_keeps table new true (told_current old false next) (told_keeps table old false next keeps))

retired_keeps : (table : Table) (host serial : ℕ) (step : Step) → Keeps table step → Keeps table (retired host serial step)
unfolding retired
retired_keeps table host serial step keeps =
    let idle = not_current host serial step in
    let then : Keeps table idle = cond_both (is_same (current_of step.table host) (Some serial)) (with_current host None step) step (Keeps table) (λ _. current_keeps table host None step keeps) (λ _. keeps) in
    cond_both (is_held serial (hold_of idle.table host)) (with_hold host Nobody idle) idle (Keeps table) (λ _. then) (λ _. then)

-- ---- windows that are made, hidden and shown

entered_lives : (w : Window) (ws : List Window) (window : ℕ) → (w.serial == window) ≡ false → lives (w ∷ ws) window ≡ lives ws window
entered_lives w ws window other = rw other refl

made_keeps : (table : Table) (w : Window) (step : Step) → Keeps table step → Keeps table (made w step)
unfolding made
made_keeps table w step keeps =
    let path = path_of step.table w.host ++ w.number ∷ [] in
    let name = name_by path w.generation in
    let told = note.Made w.number w.serial name w.r (length path) in
    let before : Step = ordered (order.Make w.serial w.host w.r name w.hidden (length path)) (entered w step) in
    let there : Step = noted w.serial told before in
    let then : Keeps table there = own_keeps table w.serial told step before refl (entered_lives w step.table.windows) keeps in
    cond_both w.hidden (noted w.serial (note.Hidden true) there) (with_current w.host (Some w.serial) there) (Keeps table)
    (λ _. noted_keeps table w.serial (note.Hidden true) there then) (λ _. current_keeps table w.host (Some w.serial) there then)

-- a window takes the place of the one with its serial
placed_keeps : (table : Table) (w : Window) (step : Step) → Keeps table step → Keeps table (with_windows (in_place w) step)
placed_keeps table w step keeps window e = in_place_lives w step.table.windows window ∙ keeps window e

hidden_keeps : (table : Table) (w : Window) (step : Step) → Keeps table step → Keeps table (hidden w step)
unfolding hidden
hidden_keeps table w step keeps =
    let before : Step = with_windows (in_place (record w { hidden = true })) step in
    let place : Step = ordered (order.Place w.serial outside) before in
    let there : Step = noted w.serial (note.Hidden true) place in
    cond_both w.hidden step (retired w.host w.serial there) (Keeps table) (λ _. keeps)
    (λ _. retired_keeps table w.host w.serial there (noted_keeps table w.serial (note.Hidden true) place (placed_keeps table (record w { hidden = true }) step keeps)))

top_keeps : (table : Table) (w : Window) (step : Step) → lives step.table.windows w.serial ≡ true → Keeps table step → Keeps table (to_top w step)
top_keeps table w step there keeps window e = raised_lives w step.table.windows there window ∙ keeps window e

bottom_keeps : (table : Table) (w : Window) (step : Step) → lives step.table.windows w.serial ≡ true → Keeps table step → Keeps table (to_bottom w step)
bottom_keeps table w step there keeps window e = lowered_lives w step.table.windows there window ∙ keeps window e

shown_keeps : (table : Table) (w : Window) (step : Step) → lives step.table.windows w.serial ≡ true → Keeps table step → Keeps table (shown w step)
unfolding shown
shown_keeps table w step is keeps =
    let before : Step = ordered (order.Place w.serial w.r.min) step in
    let there : Step = noted w.serial (note.Hidden false) before in
    let up : Step = to_top (record w { hidden = false }) there in
    let then : Keeps table up = top_keeps table (record w { hidden = false }) there is (noted_keeps table w.serial (note.Hidden false) before keeps) in
    cond_both w.hidden (with_current w.host (Some w.serial) up) step (Keeps table) (λ _. current_keeps table w.host (Some w.serial) up then) (λ _. keeps)

made_current_keeps : (table : Table) (w : Window) (step : Step) → lives step.table.windows w.serial ≡ true → Keeps table step → Keeps table (made_current w step)
made_current_keeps table w step is keeps =
    cond_both w.hidden (shown w step) (with_current w.host (Some w.serial) step) (Keeps table) (λ _. shown_keeps table w step is keeps) (λ _. current_keeps table w.host (Some w.serial) step keeps)

-- ---- input

pressed_keeps : (table : Table) (host : ℕ) (p : Point) (top : Option Window) (step : Step) → topmost step.table host p ≡ top → Keeps table step → Keeps table (pressed host top step)
pressed_keeps table host p None step at keeps = keeps
pressed_keeps table host p (Some w) step at keeps =
    let there = found_lives (λ (v : Window). (v.host == host) && not v.hidden && holds v.r p) step.table.windows w at in
    current_keeps table host (Some w.serial) (to_top w step) (top_keeps table w step there keeps)

reacted_keeps : (table : Table) (e : Mouse) (host : ℕ) (step : Step) → Keeps table step → Keeps table (reacted e host step)
unfolding reacted
reacted_keeps table e host step keeps = by_hold (hold_of step.table host) (e.buttons == 0) refl refl
  where
    by_hold : (hold : Hold) (released : Bool) → hold_of step.table host ≡ hold → (e.buttons == 0) ≡ released → Keeps table (reacted e host step)
    by_hold Free true at up = rw (at, up) keeps
    by_hold Free false at up = rw (at, up) (pressed_keeps table host (point_of e) (topmost step.table host (point_of e)) step refl keeps)
    by_hold (Held serial) true at up = rw (at, up) keeps
    by_hold Nobody true at up = rw (at, up) keeps
    by_hold (Held serial) false at up = rw (at, up) keeps
    by_hold Nobody false at up = rw (at, up) keeps

given_keeps : (table : Table) (pass : ℕ → Step → Step) → ((host : ℕ) (step : Step) → Keeps table step → Keeps table (pass host step)) → (e : Mouse) (to : Option ℕ) (step : Step) → Keeps table step
    → Keeps table (given pass e to step)
given_keeps table pass passes e None step keeps = keeps
given_keeps table pass passes e (Some serial) step keeps = by_test (is_host step.table serial) refl
  where
    by_test : (b : Bool) → is_host step.table serial ≡ b → Keeps table (given pass e (Some serial) step)
    by_test true at = rw at (passes serial step keeps)
    by_test false at = rw at (noted_keeps table serial (note.Mouse e.x e.y e.buttons e.msec) step keeps)

moused_keeps : (table : Table) (levels : ℕ) (e : Mouse) (host : ℕ) (step : Step) → Keeps table step → Keeps table (moused levels e host step)
unfolding moused
moused_keeps table zero e host step keeps = keeps
moused_keeps table (suc levels) e host step keeps =
    given_keeps table (moused levels e) (moused_keeps table levels e) e (receiver step.table e host (hold_of step.table host)) (reacted e host step) (reacted_keeps table e host step keeps)

keyed_keeps : (table : Table) (to : Option ℕ) (keys : List (List ℕ)) (step : Step) → Keeps table step → Keeps table (keyed to keys step)
keyed_keeps table None keys step keeps = keeps
keyed_keeps table (Some serial) [] step keeps = keeps
keyed_keeps table (Some serial) (key ∷ keys) step keeps = keyed_keeps table (Some serial) keys (noted serial (note.Key key) step) (noted_keeps table serial (note.Key key) step keeps)

-- ---- windows that move

replaced_keeps : (table : Table) (keep : Bool) (w : Window) (r : Rect) (step : Step) → Keeps table step → Keeps table (replaced keep w r step)
unfolding replaced
replaced_keeps table keep w r step keeps =
    let name = next_name step.table w in
    let before : Step = ordered (order.Replace w.serial w.host r name keep w.hidden) (with_windows (in_place (renewed r w)) step) in
    noted_keeps table w.serial (cond keep (note.Moved name r) (note.Resized name r)) before (placed_keeps table (renewed r w) step keeps)

abbrev Moves : Table → (Window → Rect → Step → Outcome Step) → Type 0
Moves table move = (w : Window) (r : Rect) (step out : Step) → Keeps table step → move w r step ≡ Ok out → Keeps table out

abbrev Changes : Table → (Window → Step → Outcome Step) → Type 0
Changes table change = (w : Window) (step out : Step) → Keeps table step → change w step ≡ Ok out → Keeps table out

carried_keeps : (table : Table) (move : Window → Rect → Step → Outcome Step) → Moves table move → (by : Point) → Changes table (carried move by)
carried_keeps table move moves by w step out keeps e = by_test (is_near (shifted w.r by)) e
  where
    by_test : (b : Bool) → cond b (move w (shifted w.r by) step) (Err 47) ≡ Ok out → Keeps table out
    by_test true e = moves w (shifted w.r by) step out keeps e
    by_test false e = absurd (let f : ◌≡◌ {A = Outcome Step} (Err 47) (Ok out) = e in cc)

each_keeps : (table : Table) (change : Window → Step → Outcome Step) → Changes table change → (ws : List Window) (step out : Step) → Keeps table step → each change ws step ≡ Ok out → Keeps table out
each_keeps table change changes [] step out keeps e = subst (Keeps table) (same_Ok step out e) keeps
each_keeps table change changes (w ∷ ws) step out keeps e =
    let first = then_ok (change w step) (each change ws) out e in
    each_keeps table change changes ws first.0 out (changes w step first.0 keeps first.1) first.2

followed_keeps : (table : Table) (move : Window → Rect → Step → Outcome Step) → Moves table move → (host : ℕ) (fill : Bool) (by : Point) (step out : Step) → Keeps table step → followed move host fill by step ≡ Ok out
    → Keeps table out
followed_keeps table move moves host fill by step out keeps e = by_test (is_host step.table host) refl
  where
    by_test : (b : Bool) → is_host step.table host ≡ b → Keeps table out
    by_test true at =
        let all : each (carried move by) (reverse (windows_in step.table host)) (ordered (order.Host host fill) step) ≡ Ok out = rw at at e in
        each_keeps table (carried move by) (carried_keeps table move moves by) (reverse (windows_in step.table host)) (ordered (order.Host host fill) step) out keeps all
    by_test false at =
        let same : ◌≡◌ {A = Outcome Step} (Ok step) (Ok out) = rw at at e in
        subst (Keeps table) (same_Ok step out same) keeps

moved_keeps : (table : Table) (levels : ℕ) (keep : Bool) → Moves table (moved levels keep)
unfolding moved
moved_keeps table zero keep w r step out keeps e = subst (Keeps table) (same_Ok step out e) keeps
moved_keeps table (suc levels) keep w r step out keeps e =
    followed_keeps table (moved levels true) (moved_keeps table levels true) w.serial (not keep) (way w.r r) (replaced keep w r step) out (replaced_keeps table keep w r step keeps) e

-- ---- windows that go

gone_lives : (ws : List Window) (gone window : ℕ) → (gone == window) ≡ false → lives (without gone ws) window ≡ lives ws window
gone_lives ws gone window other = ap is_some (found_other ws gone window (λ same. eqb-false gone window other (sym same)))

dropped_keeps : (table : Table) (w : Window) (step : Step) → Keeps table step → Keeps table (dropped w step)
unfolding dropped
dropped_keeps table w step keeps =
    let idle = retired w.host w.serial step in
    own_keeps table w.serial note.Deleted idle (ordered (order.Drop w.serial) (forgotten w.serial idle)) refl (gone_lives idle.table.windows w.serial) (retired_keeps table w.host w.serial step keeps)

all_keep : (table : Table) (levels : ℕ) → ((w : Window) (step : Step) → Keeps table step → Keeps table (deleted levels w step)) → (ws : List Window) (step : Step) → Keeps table step
    → Keeps table (fold (λ step v. deleted levels v step) step ws)
all_keep table levels deletes [] step keeps = keeps
all_keep table levels deletes (w ∷ ws) step keeps = all_keep table levels deletes ws (deleted levels w step) (deletes w step keeps)

deleted_keeps : (table : Table) (levels : ℕ) (w : Window) (step : Step) → Keeps table step → Keeps table (deleted levels w step)
unfolding deleted
deleted_keeps table zero w step keeps = keeps
deleted_keeps table (suc levels) w step keeps =
    dropped_keeps table w (fold (λ step v. deleted levels v step) step (made_in step.table w.serial)) (all_keep table levels (deleted_keeps table levels) (made_in step.table w.serial) step keeps)

-- ---- each act

new_in_keeps : (table : Table) (host : ℕ) (options : List Choice) (hide : Bool) (step out : Step) → Keeps table step → new_in host options hide step ≡ Ok out → Keeps table out
unfolding new_in
new_in_keeps table host options hide step out keeps e =
    let home = value_ok (rio_of step.table host) 42 _ out e in
    let place = value_ok (applied false options (first_rectangle (rectangle_of step.table host))) 47 _ out home.2 in
    let room = refuse_ok (is_full step.table) 49 _ out place.2 in
    let w = new_window step.table host home.0.next hide place.0 in
    subst (Keeps table) (same_Ok _ out room.1) (made_keeps table w step keeps)

moved_by_keeps : (table : Table) (keep : Bool) (options : List Choice) (w : Window) (step out : Step) → Keeps table step → moved_by keep options w step ≡ Ok out → Keeps table out
unfolding moved_by
moved_by_keeps table keep options w step out keeps e =
    let place = value_ok (applied keep options w.r) 47 _ out e in
    moved_keeps table deepest keep w place.0 step out keeps place.2

resized_keeps : (table : Table) (width height : ℕ) (step out : Step) → Keeps table step → resized width height step ≡ Ok out → Keeps table out
unfolding resized
resized_keeps table width height step out keeps e =
    let r = box (pos 0) (pos 0) (pos width) (pos height) in
    each_keeps table (moved_by true to_corner) (moved_by_keeps table true to_corner) (windows_off r step.table) (ordered (order.Size width height) (record step { table = record step.table { r = r } })) out keeps e

hosted_keeps : (table : Table) (w : Window) (step out : Step) → Keeps table step → hosted w step ≡ Ok out → Keeps table out
unfolding hosted
hosted_keeps table w step out keeps e =
    let free = refuse_ok (is_host step.table w.serial) 47 _ out e in
    let shallow = refuse_ok (nat_le 8 (length (path_of step.table w.host))) 50 _ out free.1 in
    subst (Keeps table) (same_Ok _ out shallow.1) keeps

done_keeps : (table : Table) (next out : Step) → Keeps table next → ◌≡◌ {A = Outcome Step} (Ok next) (Ok out) → Keeps table out
done_keeps table next out keeps e = subst (Keeps table) (same_Ok next out e) keeps

commanded_keeps : (table : Table) (what : Wctl) (w : Window) (step out : Step) → lives step.table.windows w.serial ≡ true → Keeps table step → commanded what w step ≡ Ok out → Keeps table out
commanded_keeps table (wctl.New options hide) w step out is keeps e = new_in_keeps table w.host options hide step out keeps e
commanded_keeps table (wctl.Resize options) w step out is keeps e = moved_by_keeps table false options w step out keeps e
commanded_keeps table (wctl.Move options) w step out is keeps e = moved_by_keeps table true options w step out keeps e
commanded_keeps table wctl.Top w step out is keeps e = done_keeps table (to_top w step) out (top_keeps table w step is keeps) e
commanded_keeps table wctl.Bottom w step out is keeps e = done_keeps table (to_bottom w step) out (bottom_keeps table w step is keeps) e
commanded_keeps table wctl.Hide w step out is keeps e = done_keeps table (hidden w step) out (hidden_keeps table w step keeps) e
commanded_keeps table wctl.Unhide w step out is keeps e = done_keeps table (shown w step) out (shown_keeps table w step is keeps) e
commanded_keeps table wctl.Current w step out is keeps e = done_keeps table (made_current w step) out (made_current_keeps table w step is keeps) e
commanded_keeps table wctl.Delete w step out is keeps e = done_keeps table (deleted deepest w step) out (deleted_keeps table deepest w step keeps) e
commanded_keeps table (wctl.Scroll scrolls) w step out is keeps e = done_keeps table step out keeps e
commanded_keeps table wctl.Set w step out is keeps e = done_keeps table step out keeps e
commanded_keeps table wctl.Host w step out is keeps e = hosted_keeps table w step out keeps e

command_to_keeps : (table : Table) (serial : ℕ) (what : Wctl) (step out : Step) → Keeps table step → command_to serial what step ≡ Ok out → Keeps table out
unfolding command_to
command_to_keeps table serial what step out keeps e =
    let found = value_ok (window_of step.table serial) 42 _ out e in
    commanded_keeps table what found.0 step out (found_lives (λ (v : Window). v.serial == serial) step.table.windows found.0 found.1) keeps found.2

act_keeps : (table : Table) (a : Act) (out : Step) → rio table a ≡ Ok out → Keeps table out
act_keeps table (act.New host options hide) out e = new_in_keeps table host options hide (begun table) out (λ window _. refl) e
act_keeps table (act.Command window what) out e = command_to_keeps table window what (begun table) out (λ window _. refl) e
act_keeps table (act.Mouse pointer) out e = done_keeps table (moused deepest pointer 0 (begun table)) out (moused_keeps table deepest pointer 0 (begun table) (λ window _. refl)) e
act_keeps table (act.Keys bytes) out e =
    done_keeps table (keyed (focus deepest table 0) (keys_of bytes) (begun table)) out (keyed_keeps table (focus deepest table 0) (keys_of bytes) (begun table) (λ window _. refl)) e
act_keeps table (act.Gone window) out e = command_to_keeps table window wctl.Delete (begun table) out (λ window _. refl) e
act_keeps table (act.Size width height) out e = resized_keeps table width height (begun table) out (λ window _. refl) e

pub acts_tell : (table : Table) (a : Act) (out : Step) (window : ℕ) → rio table a ≡ Ok out → is_told window out.notes ≡ false → is_some (window_of out.table window) ≡ is_some (window_of table window)
acts_tell table a out window e none = act_keeps table a out e window none
