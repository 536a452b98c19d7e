-- Windows that move or go keep a table sound.
use Rattle.std.proofs.Common.{◌≡◌, ◌∙◌, ℕ, zero, suc, pos, ◌==◌, Bool, true, false, cond, not, List, [], ◌∷◌, reverse, filter, Option, Some, None, Ok, Err, option_map, All, refl, sym, ap, subst, eqb-true}
use Rattle.std.proofs.lemmas.Bool.{eqb-false}
use Rattle.std.proofs.lemmas.Option.{same_Some}
use Rattle.std.proofs.lemmas.List.Elements.{All-head, All-tail, All-weaker, All-filter}
use Rattle.std.proofs.lemmas.List.Sorted.{All-permutation, IsPermutation-reverse}
use Rattle.r9_geom.specs.declared.Rect.{Rect}
use Rattle.r9_geom.specs.declared.Point.{Point}
use Rattle.r9_geom.specs.Geometry.{shifted, is_empty, meet}
use Rattle.r9_event.specs.window.Ways.{way}
use Rattle.model_text.specs.text.Outcome.{Outcome}
use Rattle.model_files.specs.declared.wctl.Choice.{Choice}
use Rattle.model_files.specs.wctl.Rectangle.{applied, box, is_near}
use Rattle.model_rio.specs.rio.Table.{Window, Table, is_host, windows_in, deepest}
use Rattle.r9_event.specs.declared.event.rio.Order.TheVariants as order
use Rattle.model_rio.specs.rio.Step.{Step, ordered, in_place}
use Rattle.model_rio.specs.rio.Moving.{renewed, replaced, each, carried, followed, moved}
use Rattle.model_rio.specs.rio.Rio.{windows_off, to_corner, resized, moved_by}
use Rattle.model_rio.specs.rio.Sound.{window_in, IsSound, IsSoundWindow}
use Rattle.model_rio.proofs.rio.Lookups.{own}
use Rattle.model_rio.proofs.rio.Refusals.{same_Ok, value_ok, then_ok}
use Rattle.model_rio.proofs.rio.Puts.{SamePlace, numbers_in_place, IsPut, IsPut-in_place}
use Rattle.model_rio.proofs.rio.Tables.{shown_sound}

-- ---- windows that move

-- what a move leaves of a window: its rio, its number there, and whether it is hidden
abbrev left : Window → ℕ × ℕ × Bool
left w = (w.host, w.number, w.hidden)

abbrev left_of : List Window → ℕ → Option (ℕ × ℕ × Bool)
left_of windows serial = option_map left (window_in windows serial)

-- each serial has a window of the same rio and number, as hidden as before, or none as before
abbrev pub IsStill : List Window → List Window → Type 0
IsStill old new = (serial : ℕ) → left_of new serial ≡ left_of old serial

-- a window that may have moved since
abbrev pub StoodIn : List Window → Window → Type 0
StoodIn windows w = left_of windows w.serial ≡ Some (left w)

stood_still : (old new : List Window) → IsStill old new → (w : Window) → StoodIn old w → StoodIn new w
stood_still old new still w e = still w.serial ∙ e

some_left : (o : Option Window) (l : ℕ × ℕ × Bool) → option_map left o ≡ Some l → (u : Window) × (o ≡ Some u) × (u.host ≡ l.0) × (u.number ≡ l.1) × (u.hidden ≡ l.2)
some_left (Some u) l e = let same : left u ≡ l = same_Some (left u) l e in (u, refl, ap (λ p. p.0) same, ap (λ p. p.1) same, ap (λ p. p.2) same)
some_left None l e = absurd (let f : ◌≡◌ {A = Option (ℕ × ℕ × Bool)} None (Some l) = e in cc)

in_place_still : (w u : Window) (old : List Window) → window_in old w.serial ≡ Some u → left w ≡ left u → IsPut w old (in_place w old) → IsStill old (in_place w old)
in_place_still w u old found same put serial = by_test (serial == w.serial) refl
  where
    by_test : (b : Bool) → (serial == w.serial) ≡ b → left_of (in_place w old) serial ≡ left_of old serial
    by_test true e =
        let at = eqb-true serial w.serial e in
        ap (left_of (in_place w old)) at ∙ ap (option_map left) put.at ∙ ap Some same ∙ sym (ap (option_map left) found) ∙ sym (ap (left_of old) at)
    by_test false e = ap (option_map left) (put.others serial (eqb-false serial w.serial e))

pub record IsMoved (old new : Step) : Type 0 where
  pub sound : IsSound new.table
  pub still : IsStill old.table.windows new.table.windows

replaced-moved : (keep : Bool) (w : Window) (r : Rect) (step : Step) → IsSound step.table → StoodIn step.table.windows w → IsMoved step (replaced keep w r step)
unfolding replaced
replaced-moved keep w r step ok stood =
    let found = some_left (window_in step.table.windows w.serial) (left w) stood in
    let put = IsPut-in_place (renewed r w) found.0 step.table.windows found.1 in
    let place : SamePlace (renewed r w) found.0 = record { host = sym found.2; number = sym found.3 } in
    record {
      sound = shown_sound (renewed r w) found.0 (in_place (renewed r w) step.table.windows) step.table ok found.1 place (λ h. sym found.4 ∙ h) put
          (numbers_in_place (renewed r w) found.0 step.table.windows found.1 place ok.serials ok.numbers);
      still = in_place_still (renewed r w) found.0 step.table.windows found.1 (λ i. (sym found.2 i, sym found.3 i, sym found.4 i)) put;
    }

-- a change that moves windows
abbrev Moves : (Window → Rect → Step → Outcome Step) → Type 0
Moves move = (w : Window) (r : Rect) (step out : Step) → IsSound step.table → StoodIn step.table.windows w → move w r step ≡ Ok out → IsMoved step out

abbrev Changes : (Window → Step → Outcome Step) → Type 0
Changes change = (w : Window) (step out : Step) → IsSound step.table → StoodIn step.table.windows w → change w step ≡ Ok out → IsMoved step out

carried-moved : (move : Window → Rect → Step → Outcome Step) → Moves move → (by : Point) → Changes (carried move by)
carried-moved move moves by w step out ok stood e = by_test (is_near (shifted w.r by)) e
  where
    by_test : (b : Bool) → cond b (move w (shifted w.r by) step) (Err 47) ≡ Ok out → IsMoved step out
    by_test true e = moves w (shifted w.r by) step out ok stood e
    by_test false e = absurd (let f : ◌≡◌ {A = Outcome Step} (Err 47) (Ok out) = e in cc)

pub each-moved : (change : Window → Step → Outcome Step) → Changes change → (ws : List Window) (step out : Step) → IsSound step.table → All (StoodIn step.table.windows) ws → each change ws step ≡ Ok out → IsMoved step out
each-moved change changes [] step out ok stood e = subst (IsMoved step) (same_Ok step out e) (record { sound = ok; still = λ serial. refl })
each-moved change changes (w ∷ ws) step out ok stood e =
    let first = then_ok (change w step) (each change ws) out e in
    let one = changes w step first.0 ok (All-head (StoodIn step.table.windows) w ws stood) first.1 in
    let rest = each-moved change changes ws first.0 out one.sound (All-weaker (StoodIn step.table.windows) (StoodIn first.0.table.windows) (stood_still step.table.windows first.0.table.windows one.still) ws (All-tail (StoodIn step.table.windows) w ws stood)) first.2 in
    record { sound = rest.sound; still = λ serial. rest.still serial ∙ one.still serial }

pub stand_own : (table : Table) → IsSound table → All (λ w. window_in table.windows w.serial ≡ Some w) table.windows
stand_own table ok = own (λ w. w.serial) table.windows ok.serials

all_stood : (table : Table) → IsSound table → (host : ℕ) → All (StoodIn table.windows) (windows_in table host)
all_stood table ok host =
    All-filter (λ (w : Window). w.host == host) (StoodIn table.windows) table.windows
    (All-weaker (λ w. window_in table.windows w.serial ≡ Some w) (StoodIn table.windows) (λ w e. ap (option_map left) e) table.windows (stand_own table ok))

reversed_stood : (windows ws : List Window) → All (StoodIn windows) ws → All (StoodIn windows) (reverse ws)
reversed_stood windows ws stood = All-permutation (StoodIn windows) ws (reverse ws) (IsPermutation-reverse ws) stood

inner_stood : (table : Table) → IsSound table → (host : ℕ) → All (StoodIn table.windows) (reverse (windows_in table host))
inner_stood table ok host = reversed_stood table.windows (windows_in table host) (all_stood table ok host)

off_stood : (table : Table) → IsSound table → (r : Rect) → All (StoodIn table.windows) (windows_off r table)
off_stood table ok r =
    reversed_stood table.windows (filter (λ (w : Window). is_empty (meet w.r r)) (windows_in table 0))
    (All-filter (λ (w : Window). is_empty (meet w.r r)) (StoodIn table.windows) (windows_in table 0) (all_stood table ok 0))

followed-moved : (move : Window → Rect → Step → Outcome Step) → Moves move → (host : ℕ) (fill : Bool) (by : Point) (step out : Step) → IsSound step.table → followed move host fill by step ≡ Ok out → IsMoved step out
followed-moved move moves host fill by step out ok e = by_test (is_host step.table host) refl
  where
    by_test : (b : Bool) → is_host step.table host ≡ b → IsMoved step out
    by_test true is =
        let led = ordered (order.Host host fill) step in
        let all : each (carried move by) (reverse (windows_in step.table host)) led ≡ Ok out = rw is at e in
        let done = each-moved (carried move by) (carried-moved move moves by) (reverse (windows_in step.table host)) led out ok (inner_stood step.table ok host) all in
        record { sound = done.sound; still = done.still }
    by_test false is =
        let same : ◌≡◌ {A = Outcome Step} (Ok step) (Ok out) = rw is at e in
        subst (IsMoved step) (same_Ok step out same) (record { sound = ok; still = λ serial. refl })

pub moved-moves : (levels : ℕ) (keep : Bool) → Moves (moved levels keep)
unfolding moved
moved-moves zero keep w r step out ok stood e = subst (IsMoved step) (same_Ok step out e) (record { sound = ok; still = λ serial. refl })
moved-moves (suc levels) keep w r step out ok stood e =
    let first = replaced-moved keep w r step ok stood in
    let rest = followed-moved (moved levels true) (moved-moves levels true) w.serial (not keep) (way w.r r) (replaced keep w r step) out first.sound e in
    record { sound = rest.sound; still = λ serial. rest.still serial ∙ first.still serial }

pub moved_by-moved : (keep : Bool) (options : List Choice) → Changes (moved_by keep options)
unfolding moved_by
moved_by-moved keep options w step out ok stood e =
    let place = value_ok (applied keep options w.r) 47 _ out e in
    moved-moves deepest keep w place.0 step out ok stood place.2

-- ---- the display

display_sound : (table : Table) (r : Rect) → IsSound table → IsSound (record table { r = r })
display_sound table r ok = record {
  root = ok.root;
  few = ok.few;
  serials = ok.serials;
  numbers = ok.numbers;
  hosts = ok.hosts;
  windows = All-weaker (IsSoundWindow table) (IsSoundWindow (record table { r = r })) (λ w is. record { counted = is.counted; given = is.given; within = is.within; housed = is.housed; numbered = is.numbered }) table.windows ok.windows;
  rios = ok.rios;
  next = ok.next;
}

pub resized-sound : (width height : ℕ) (step out : Step) → IsSound step.table → resized width height step ≡ Ok out → IsSound out.table
unfolding resized
resized-sound width height step out ok e =
    let r = box (pos 0) (pos 0) (pos width) (pos height) in
    let led : Step = ordered (order.Size width height) (record step { table = record step.table { r = r } }) in
    (each-moved (moved_by true to_corner) (moved_by-moved true to_corner) (windows_off r step.table) led out (display_sound step.table r ok) (off_stood step.table ok r) e).sound
