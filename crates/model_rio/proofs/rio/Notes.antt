-- The notes of an act stand in turn.
use Rattle.std.proofs.Common.{◌≡◌, ℕ, zero, suc, ◌≤◌, ◌==◌, Bool, true, false, cond, not, List, [], ◌∷◌, ◌++◌, reverse, length, Option, Some, None, Ok, Err, All, AllPairs, refl, subst, arith}
use Rattle.std.proofs.lemmas.Bool.{cond_both}
use Rattle.std.proofs.lemmas.List.Elements.{All-nil, All-weaker, All-push}
use Rattle.std.proofs.lemmas.List.Quantifiers.{all_pairs_push}
use Rattle.r9_geom.specs.declared.Rect.{Rect}
use Rattle.r9_geom.specs.declared.Point.{Point}
use Rattle.r9_geom.specs.Geometry.{shifted}
use Rattle.r9_event.specs.window.Ways.{way}
use Rattle.r9_event.specs.declared.event.rio.Note.{Note}
use Rattle.r9_event.specs.declared.event.rio.Note.TheVariants as note
use Rattle.r9_event.specs.declared.event.rio.Order.TheVariants as order
use Rattle.model_text.specs.text.Outcome.{Outcome}
use Rattle.model_files.specs.declared.mouse.Mouse.{Mouse}
use Rattle.model_files.specs.wctl.Rectangle.{is_near}
use Rattle.model_rio.specs.rio.Table.{Window, Table, Hold, Free, Held, Nobody, path_of, name_by, is_host, windows_in, current_of, hold_of, topmost}
use Rattle.model_rio.specs.rio.Step.{Step, begun, ordered, noted, with_rio, with_hold, with_windows, with_current, told_current, in_place, raised, is_same, is_held, not_current, retired}
use Rattle.model_rio.specs.rio.Moving.{next_name, replaced, each, carried, followed, moved}
use Rattle.model_rio.specs.rio.Routing.{moused, reacted, given, pressed, point_of, receiver, keyed}
use Rattle.model_rio.specs.rio.Rio.{entered, made, hidden, shown, to_top, made_current, outside}
use Rattle.model_rio.specs.rio.Notes.{rank}
use Rattle.model_rio.proofs.rio.Refusals.{same_Ok, then_ok}

-- ---- acts whose notes are in turn whichever windows they tell

-- The kinds of the notes stand in turn, and none is of a later kind than the one of this place.
pub record IsUpto (most : ℕ) (step : Step) : Type 0 where
  pub sorted : AllPairs (λ a b. rank a.1 ≤ rank b.1) step.notes
  pub within : All (λ a. rank a.1 ≤ most) step.notes

pub begun_upto : (table : Table) → IsUpto 0 (begun table)
begun_upto table = record { sorted = λ i j d before within. absurd (omega arith); within = All-nil (λ a. rank a.1 ≤ 0) }

pub upto_more : (less more : ℕ) (step : Step) → less ≤ more → IsUpto less step → IsUpto more step
upto_more less more step le is = record { sorted = is.sorted; within = All-weaker (λ (a : ℕ × Note). rank a.1 ≤ less) (λ a. rank a.1 ≤ more) (λ a w. omega (arith, w)) step.notes is.within }

pub noted_upto : (most serial : ℕ) (told : Note) (step : Step) → most ≤ rank told → IsUpto most step → IsUpto (rank told) (noted serial told step)
noted_upto most serial told step le is =
    let before : All (λ (a : ℕ × Note). rank a.1 ≤ rank told) step.notes = (upto_more most (rank told) step le is).within in
    record {
      sorted = all_pairs_push (λ (a b : ℕ × Note). rank a.1 ≤ rank b.1) step.notes (serial, told) is.sorted before;
      within = All-push (λ (a : ℕ × Note). rank a.1 ≤ rank told) step.notes (serial, told) before (omega arith);
    }

told_upto : (o : Option ℕ) (is : Bool) (step : Step) → IsUpto 3 step → IsUpto 3 (told_current o is step)
told_upto None is step upto = upto
told_upto (Some serial) is step upto = noted_upto 3 serial (note.Current is) step (omega arith) upto

pub current_upto : (host : ℕ) (new : Option ℕ) (step : Step) → IsUpto 3 step → IsUpto 3 (with_current host new step)
unfolding with_current
current_upto host new step is =
    let old = current_of step.table host in
    let next : Step = with_rio host (λ rio. record rio { current = new }) step in
    cond_both (is_same old new) step (told_current new true (told_current old false next)) (IsUpto 3) (λ _. is)
    (λ _. told_upto new true (told_current old false next) (told_upto old false next (record { sorted = is.sorted; within = is.within })))

pub retired_upto : (host serial : ℕ) (step : Step) → IsUpto 3 step → IsUpto 3 (retired host serial step)
unfolding retired
retired_upto host serial step is =
    let idle = not_current host serial step in
    let then : IsUpto 3 idle = cond_both (is_same (current_of step.table host) (Some serial)) (with_current host None step) step (IsUpto 3) (λ _. current_upto host None step is) (λ _. is) in
    cond_both (is_held serial (hold_of idle.table host)) (with_hold host Nobody idle) idle (IsUpto 3) (λ _. record { sorted = then.sorted; within = then.within }) (λ _. then)

pub made_upto : (w : Window) (step : Step) → IsUpto 0 step → IsUpto 3 (made w step)
unfolding made
made_upto w step is =
    let path = path_of step.table w.host ++ w.number ∷ [] in
    let name = name_by path w.generation in
    let before : Step = ordered (order.Make w.serial w.host w.r name w.hidden (length path)) (entered w step) in
    let told = note.Made w.number w.serial name w.r (length path) in
    let there : Step = noted w.serial told before in
    let upto : IsUpto 0 there = noted_upto 0 w.serial told before (omega arith) (record { sorted = is.sorted; within = is.within }) in
    cond_both w.hidden (noted w.serial (note.Hidden true) there) (with_current w.host (Some w.serial) there) (IsUpto 3)
    (λ _. upto_more 2 3 (noted w.serial (note.Hidden true) there) (omega arith) (noted_upto 0 w.serial (note.Hidden true) there (omega arith) upto))
    (λ _. current_upto w.host (Some w.serial) there (upto_more 0 3 there (omega arith) upto))

pub hidden_upto : (w : Window) (step : Step) → IsUpto 0 step → IsUpto 3 (hidden w step)
unfolding hidden
hidden_upto w step is =
    let before : Step = ordered (order.Place w.serial outside) (with_windows (in_place (record w { hidden = true })) step) in
    let there : Step = noted w.serial (note.Hidden true) before in
    let upto : IsUpto 2 there = noted_upto 0 w.serial (note.Hidden true) before (omega arith) (record { sorted = is.sorted; within = is.within }) in
    cond_both w.hidden step (retired w.host w.serial there) (IsUpto 3) (λ _. upto_more 0 3 step (omega arith) is)
    (λ _. retired_upto w.host w.serial there (upto_more 2 3 there (omega arith) upto))

pub shown_upto : (w : Window) (step : Step) → IsUpto 0 step → IsUpto 3 (shown w step)
unfolding shown
shown_upto w step is =
    let before : Step = ordered (order.Place w.serial w.r.min) step in
    let there : Step = noted w.serial (note.Hidden false) before in
    let up : Step = to_top (record w { hidden = false }) there in
    let told : IsUpto 2 there = noted_upto 0 w.serial (note.Hidden false) before (omega arith) (record { sorted = is.sorted; within = is.within }) in
    let upto : IsUpto 3 there = upto_more 2 3 there (omega arith) told in
    cond_both w.hidden (with_current w.host (Some w.serial) up) step (IsUpto 3) (λ _. current_upto w.host (Some w.serial) up (record { sorted = upto.sorted; within = upto.within })) (λ _. upto_more 0 3 step (omega arith) is)

pub made_current_upto : (w : Window) (step : Step) → IsUpto 0 step → IsUpto 3 (made_current w step)
made_current_upto w step is =
    cond_both w.hidden (shown w step) (with_current w.host (Some w.serial) step) (IsUpto 3) (λ _. shown_upto w step is) (λ _. current_upto w.host (Some w.serial) step (upto_more 0 3 step (omega arith) is))

-- ---- input

pressed_upto : (host : ℕ) (top : Option Window) (step : Step) → IsUpto 3 step → IsUpto 3 (pressed host top step)
pressed_upto host None step is = record { sorted = is.sorted; within = is.within }
pressed_upto host (Some w) step is =
    let up : Step = ordered (order.Raise w.serial) (with_windows (raised w) step) in
    let upto = current_upto host (Some w.serial) up (record { sorted = is.sorted; within = is.within }) in
    record { sorted = upto.sorted; within = upto.within }

reacted_upto : (e : Mouse) (host : ℕ) (step : Step) → IsUpto 3 step → IsUpto 3 (reacted e host step)
unfolding reacted
reacted_upto e host step is = by_hold (hold_of step.table host) (e.buttons == 0) refl refl
  where
    by_hold : (hold : Hold) (released : Bool) → hold_of step.table host ≡ hold → (e.buttons == 0) ≡ released → IsUpto 3 (reacted e host step)
    by_hold Free true at up = rw (at, up) is
    by_hold Free false at up = rw (at, up) (pressed_upto host (topmost step.table host (point_of e)) step is)
    by_hold (Held serial) true at up = rw (at, up) (record { sorted = is.sorted; within = is.within })
    by_hold Nobody true at up = rw (at, up) (record { sorted = is.sorted; within = is.within })
    by_hold (Held serial) false at up = rw (at, up) is
    by_hold Nobody false at up = rw (at, up) is

given_upto : (pass : ℕ → Step → Step) → ((host : ℕ) (step : Step) → IsUpto 3 step → IsUpto 4 (pass host step)) → (e : Mouse) (to : Option ℕ) (step : Step) → IsUpto 3 step → IsUpto 4 (given pass e to step)
given_upto pass keeps e None step is = upto_more 3 4 step (omega arith) is
given_upto pass keeps e (Some serial) step is = by_test (is_host step.table serial) refl
  where
    by_test : (b : Bool) → is_host step.table serial ≡ b → IsUpto 4 (given pass e (Some serial) step)
    by_test true at = rw at (keeps serial step is)
    by_test false at = rw at (noted_upto 3 serial (note.Mouse e.x e.y e.buttons e.msec) step (omega arith) is)

pub moused_upto : (levels : ℕ) (e : Mouse) (host : ℕ) (step : Step) → IsUpto 3 step → IsUpto 4 (moused levels e host step)
unfolding moused
moused_upto zero e host step is = upto_more 3 4 step (omega arith) is
moused_upto (suc levels) e host step is =
    given_upto (moused levels e) (moused_upto levels e) e (receiver step.table e host (hold_of step.table host)) (reacted e host step) (reacted_upto e host step is)

pub keyed_upto : (to : Option ℕ) (keys : List (List ℕ)) (step : Step) → IsUpto 5 step → IsUpto 5 (keyed to keys step)
keyed_upto None keys step is = is
keyed_upto (Some serial) [] step is = is
keyed_upto (Some serial) (key ∷ keys) step is = keyed_upto (Some serial) keys (noted serial (note.Key key) step) (noted_upto 5 serial (note.Key key) step (omega arith) is)

-- ---- windows that move

replaced_upto : (keep : Bool) (w : Window) (r : Rect) (step : Step) → IsUpto 1 step → IsUpto 1 (replaced keep w r step)
unfolding replaced
replaced_upto true w r step is = noted_upto 1 w.serial (note.Moved (next_name step.table w) r) _ (omega arith) (record { sorted = is.sorted; within = is.within })
replaced_upto false w r step is = noted_upto 1 w.serial (note.Resized (next_name step.table w) r) _ (omega arith) (record { sorted = is.sorted; within = is.within })

abbrev pub Tells : (Window → Rect → Step → Outcome Step) → Type 0
Tells move = (w : Window) (r : Rect) (step out : Step) → IsUpto 1 step → move w r step ≡ Ok out → IsUpto 1 out

abbrev pub TellsEach : (Window → Step → Outcome Step) → Type 0
TellsEach change = (w : Window) (step out : Step) → IsUpto 1 step → change w step ≡ Ok out → IsUpto 1 out

carried_upto : (move : Window → Rect → Step → Outcome Step) → Tells move → (by : Point) → TellsEach (carried move by)
carried_upto move tells by w step out is e = by_test (is_near (shifted w.r by)) e
  where
    by_test : (b : Bool) → cond b (move w (shifted w.r by) step) (Err 47) ≡ Ok out → IsUpto 1 out
    by_test true e = tells w (shifted w.r by) step out is e
    by_test false e = absurd (let f : ◌≡◌ {A = Outcome Step} (Err 47) (Ok out) = e in cc)

pub each_upto : (change : Window → Step → Outcome Step) → TellsEach change → (ws : List Window) (step out : Step) → IsUpto 1 step → each change ws step ≡ Ok out → IsUpto 1 out
each_upto change tells [] step out is e = subst (IsUpto 1) (same_Ok step out e) is
each_upto change tells (w ∷ ws) step out is e =
    let first = then_ok (change w step) (each change ws) out e in
    each_upto change tells ws first.0 out (tells w step first.0 is first.1) first.2

followed_upto : (move : Window → Rect → Step → Outcome Step) → Tells move → (host : ℕ) (fill : Bool) (by : Point) (step out : Step) → IsUpto 1 step → followed move host fill by step ≡ Ok out → IsUpto 1 out
followed_upto move tells host fill by step out is e = by_test (is_host step.table host) refl
  where
    by_test : (b : Bool) → is_host step.table host ≡ b → IsUpto 1 out
    by_test true at =
        let all : each (carried move by) (reverse (windows_in step.table host)) (ordered (order.Host host fill) step) ≡ Ok out = rw at at e in
        each_upto (carried move by) (carried_upto move tells by) (reverse (windows_in step.table host)) (ordered (order.Host host fill) step) out (record { sorted = is.sorted; within = is.within }) all
    by_test false at =
        let same : ◌≡◌ {A = Outcome Step} (Ok step) (Ok out) = rw at at e in
        subst (IsUpto 1) (same_Ok step out same) is

pub moved_upto : (levels : ℕ) (keep : Bool) → Tells (moved levels keep)
unfolding moved
moved_upto zero keep w r step out is e = subst (IsUpto 1) (same_Ok step out e) is
moved_upto (suc levels) keep w r step out is e =
    followed_upto (moved levels true) (moved_upto levels true) w.serial (not keep) (way w.r r) (replaced keep w r step) out (replaced_upto keep w r step is) e
