-- The orders of acts that make, raise, lower, hide, show and move windows fit.
use Rattle.std.proofs.Common.{◌≡◌, ℕ, zero, suc, ◌<◌, Bool, true, false, cond, List, [], ◌∷◌, ◌++◌, reverse, length, Option, Some, None, Ok, Err, All, refl, sym, ap, subst, ◌∙◌, arith, eqb-true}
use Rattle.std.specs.Prelude.{◌==◌, ◌+◌, ◌||◌, ◌&&◌, not, is_none, is_some, nat_le, if◌then◌else◌}
use Rattle.std.proofs.lemmas.Bool.{cond_both}
use Rattle.std.proofs.lemmas.Bool.Decides.{nat_tests}
use Rattle.std.proofs.lemmas.List.Sorted.{All-permutation, IsPermutation-reverse}
use Rattle.r9_geom.specs.declared.Rect.{Rect}
use Rattle.r9_geom.specs.declared.Point.{Point}
use Rattle.r9_geom.specs.Geometry.{shifted}
use Rattle.r9_event.specs.window.Ways.{way}
use Rattle.r9_event.specs.declared.event.rio.Note.TheVariants as note
use Rattle.r9_event.specs.declared.event.rio.Order.{Order}
use Rattle.r9_event.specs.declared.event.rio.Order.TheVariants as order
use Rattle.model_text.specs.text.Outcome.{Outcome}
use Rattle.model_files.specs.declared.wctl.Choice.{Choice}
use Rattle.model_files.specs.wctl.Rectangle.{applied, is_near}
use Rattle.model_rio.specs.rio.Table.{Window, Rio, Table, deepest, is_host, name_by, no_windows, path_of, rectangle_of, rio_of, windows_in}
use Rattle.model_rio.specs.rio.Step.{Step, in_place, lowered, noted, ordered, raised, retired, with_current, with_windows}
use Rattle.model_rio.specs.rio.Moving.{carried, each, followed, moved, next_name, renewed, replaced}
use Rattle.model_rio.specs.rio.Rio.{entered, first_rectangle, hidden, hosted, is_full, made, made_current, moved_by, new_in, new_window, next_number, outside, shown, to_bottom, to_top}
use Rattle.model_forest.specs.World.{SameSize}
use Rattle.model_draw_parts.specs.declared.images.ImageId.{ImageId}
use Rattle.model_draw_parts.specs.images.Book.{image_id}
use Rattle.model_draw.specs.draw.World.{World, at_number}
use Rattle.model_draw.specs.draw.Orders.{after_order, can_keep, carried_out, fits, has_rio, has_window, image_shown, is_near_point, is_window_rect, manager, rio_screen}
use Rattle.law_shown.specs.shown.Showing.{ShowsRio, ShowsWindow}
use Rattle.law_shown.specs.fitting.Fitting.{IsWay, Shows}
use Rattle.law_shown.proofs.shown.Tests.{both, find-passes, not-true, refuse_ok, same_Ok, same_Some, then_ok, value_ok}
use Rattle.law_shown.proofs.fitting.Lists.{Each, all_of, each_append, each_filter, each_found, each_map, each_of, each_then}
use Rattle.law_shown.proofs.fitting.Rects.{applied_rect, applied_size, shifted_rect, shifted_size}
use Rattle.law_shown.proofs.shown.Frames.{sizes, turned}
use Rattle.law_shown.proofs.shown.Following.{Follows, none, only}
use Rattle.law_shown.proofs.lasting.Ordering.{host_follows, host_rect, lower_follows, make_follows, near_corner, place_follows, raise_follows, replace_follows, shows_has, shows_keeps, shows_rio}
use Rattle.law_shown.proofs.fitting.Stepping.{Fits, IsFit, current_fit, each_in_place, each_lowered, each_raised, fits_more, next_fit, now, one_more, retired_fit, rios_of, root_shown, shows_follow, shows_windows, windows_of}

-- ---- orders that change no window's image

-- such an order, with other windows that are shown
quiet_fit : (device : World) (step : Step) (o : Order) (windows : List Window) → IsFit device step → fits (now device step) o ≡ true → Follows none none (now device step) (after_order (now device step) o)
    → Each (λ v. ShowsWindow (now device step) v.serial v.r) windows → Fits device (step.orders ++ o ∷ []) (record step.table { windows = windows })
quiet_fit device step o windows fit fit_now f each =
    let old = now device step in
    let new : World = after_order old o in
    fits_more device step.orders o step.table (record step.table { windows = windows }) fit fit_now f.orderly
    (shows_windows new step.table windows (shows_follow old new step.table f fit.shows) (each_then (λ v. ShowsWindow old v.serial v.r) (λ v. ShowsWindow new v.serial v.r) (λ v is. f.windows v.serial v.r refl is) windows each))

quiet_still : (device : World) (step : Step) (o : Order) (serial : ℕ) (r : Rect) → fits (now device step) o ≡ true → Follows none none (now device step) (after_order (now device step) o) → ShowsWindow (now device step) serial r
    → ShowsWindow (carried_out device (step.orders ++ o ∷ [])) serial r
quiet_still device step o serial r fit f shows = subst (λ (w : World). ShowsWindow w serial r) (sym (one_more device step.orders o fit)) (f.windows serial r refl shows)

-- ---- to the top and to the bottom

pub top_fit : (device : World) (w : Window) (step : Step) → IsFit device step → ShowsWindow (now device step) w.serial w.r → IsFit device (to_top w step)
top_fit device w step fit stands =
    let old = now device step in
    quiet_fit device step (order.Raise w.serial) (raised w step.table.windows) fit (shows_has old w.serial w.r stands) (raise_follows old w.serial fit.orderly)
    (each_raised (λ v. ShowsWindow old v.serial v.r) w step.table.windows stands (windows_of old step.table fit.shows))

pub bottom_fit : (device : World) (w : Window) (step : Step) → IsFit device step → ShowsWindow (now device step) w.serial w.r → IsFit device (to_bottom w step)
bottom_fit device w step fit stands =
    let old = now device step in
    quiet_fit device step (order.Lower w.serial) (lowered w step.table.windows) fit (shows_has old w.serial w.r stands) (lower_follows old w.serial fit.orderly)
    (each_lowered (λ v. ShowsWindow old v.serial v.r) w step.table.windows stands (windows_of old step.table fit.shows))

-- ---- hidden, and shown again

outside_near : is_near_point outside ≡ true
outside_near = refl

pub hidden_fit : (device : World) (w : Window) (step : Step) → IsFit device step → ShowsWindow (now device step) w.serial w.r → IsFit device (hidden w step)
unfolding hidden
hidden_fit device w step fit stands =
    let old = now device step in
    let away : Window = record w { hidden = true } in
    let there : Step = noted w.serial (note.Hidden true) (ordered (order.Place w.serial outside) (with_windows (in_place away) step)) in
    let next : IsFit device there =
    quiet_fit device step (order.Place w.serial outside) (in_place away step.table.windows) fit (both (has_window old w.serial) (is_near_point outside) (shows_has old w.serial w.r stands) outside_near) (place_follows old w.serial outside fit.orderly)
    (each_in_place (λ v. ShowsWindow old v.serial v.r) away step.table.windows stands (windows_of old step.table fit.shows)) in
    cond_both w.hidden step (retired w.host w.serial there) (IsFit device) (λ _. fit) (λ _. retired_fit device w.host w.serial there next)

pub shown_fit : (device : World) (w : Window) (step : Step) → IsFit device step → ShowsWindow (now device step) w.serial w.r → IsFit device (shown w step)
unfolding shown
shown_fit device w step fit stands =
    let old = now device step in
    let o : Order = order.Place w.serial w.r.min in
    let fit_now : fits old o ≡ true = both (has_window old w.serial) (is_near_point w.r.min) (shows_has old w.serial w.r stands) (near_corner w.r stands.may) in
    let f : Follows none none old (after_order old o) = place_follows old w.serial w.r.min fit.orderly in
    let there : Step = noted w.serial (note.Hidden false) (ordered o step) in
    let next : IsFit device there = quiet_fit device step o step.table.windows fit fit_now f (windows_of old step.table fit.shows) in
    let back : Window = record w { hidden = false } in
    let up : Step = to_top back there in
    let last : IsFit device up = top_fit device back there next (quiet_still device step o w.serial w.r fit_now f stands) in
    cond_both w.hidden (with_current w.host (Some w.serial) up) step (IsFit device) (λ _. current_fit device w.host (Some w.serial) up last) (λ _. fit)

pub made_current_fit : (device : World) (w : Window) (step : Step) → IsFit device step → ShowsWindow (now device step) w.serial w.r → IsFit device (made_current w step)
made_current_fit device w step fit stands =
    cond_both w.hidden (shown w step) (with_current w.host (Some w.serial) step) (IsFit device) (λ _. shown_fit device w step fit stands) (λ _. current_fit device w.host (Some w.serial) step fit)

-- ---- a new window

-- a window that is there is not one that has no image
other_serial : (w : World) (serial new : ℕ) (r : Rect) → image_id w.book manager new ≡ None → ShowsWindow w serial r → only new serial ≡ false
other_serial w serial new r free shows =
    not-true (serial == new) (λ is. absurd (let two : ◌≡◌ {A = Option ImageId} None (Some shows.id) = sym free ∙ ap (image_id w.book manager) (sym (eqb-true serial new is)) ∙ shows.found in cc))

pub made_fit : (device : World) (w : Window) (step : Step) → IsFit device step → (w.serial == 0) ≡ false → step.table.serials < w.serial → is_window_rect w.r ≡ true → ShowsRio (now device step) w.host → IsFit device (made w step)
unfolding made
made_fit device w step fit counted given may rio =
    let old = now device step in
    let path = path_of step.table w.host ++ w.number ∷ [] in
    let name = name_by path w.generation in
    let o : Order = order.Make w.serial w.host w.r name w.hidden (length path) in
    let free = fit.shows.fresh w.serial given in
    let comes = make_follows old w.serial w.host w.r name w.hidden fit.orderly counted may free rio in
    let new : World = after_order old o in
    let f : Follows (only w.serial) none old new = comes.0 in
    let fit_now : fits old o ≡ true =
    both (has_rio old w.host && is_none (image_id old.book manager w.serial)) (is_window_rect w.r)
    (both (has_rio old w.host) (is_none (image_id old.book manager w.serial)) (shows_rio old w.host rio) (ap is_none free)) may in
    let entering : Table = record step.table { serials = w.serial; windows = w ∷ step.table.windows } in
    let shows : Shows new entering = record {
      rooted = fit.shows.rooted;
      windows = all_of (λ v. ShowsWindow new v.serial v.r) (w ∷ step.table.windows)
          (comes.1, each_then (λ v. ShowsWindow old v.serial v.r) (λ v. ShowsWindow new v.serial v.r) (λ v is. f.windows v.serial v.r (other_serial old v.serial w.serial v.r free is) is) step.table.windows (windows_of old step.table fit.shows));
      rios = all_of (λ rio. ShowsRio new rio.host) (step.table.root ∷ step.table.rios)
          (each_then (λ rio. ShowsRio old rio.host) (λ rio. ShowsRio new rio.host) (λ rio is. f.rios rio.host refl is) (step.table.root ∷ step.table.rios) (rios_of old step.table fit.shows));
      fresh = λ serial later. f.fresh serial (later_serial serial w.serial later) (fit.shows.fresh serial (omega (arith, given, later)));
    } in
    let before : Step = ordered o (record step { table = entering }) in
    let placed : IsFit device before = fits_more device step.orders o step.table entering fit fit_now f.orderly shows in
    let there : Step = noted w.serial (note.Made w.number w.serial name w.r (length path)) (ordered o (entered w step)) in
    let next : IsFit device there = next_fit device w.host next_number before placed in
    cond_both w.hidden (noted w.serial (note.Hidden true) there) (with_current w.host (Some w.serial) there) (IsFit device) (λ _. next) (λ _. current_fit device w.host (Some w.serial) there next)
  where
    later_serial : (serial new : ℕ) → new < serial → (serial == new) ≡ false
    later_serial serial new later = grind (arith, nat_tests)

-- the rio of a host that is there is shown
pub rio_shown : (w : World) (table : Table) (host : ℕ) (rio : Rio) → Shows w table → rio_of table host ≡ Some rio → ShowsRio w host
rio_shown w table host rio shows found =
    subst (ShowsRio w) (eqb-true rio.host host (find-passes (λ (r : Rio). r.host == host) (table.root ∷ table.rios) rio found))
    (each_found (λ r. ShowsRio w r.host) (λ (r : Rio). r.host == host) (table.root ∷ table.rios) rio (rios_of w table shows) found)

pub host_shown : (w : World) (table : Table) (host : ℕ) → Shows w table → is_host table host ≡ true → ShowsRio w host
host_shown w table host shows is = by (rio_of table host) refl is
  where
    by : (o : Option Rio) → rio_of table host ≡ o → is_some o ≡ true → ShowsRio w host
    by (Some rio) found is = rio_shown w table host rio shows found
    by None found is = absurd cc

pub new_in_fit : (device : World) (host : ℕ) (options : List Choice) (hide : Bool) (step out : Step) → IsFit device step → new_in host options hide step ≡ Ok out → IsFit device out
unfolding new_in
new_in_fit device host options hide step out fit e =
    let home = value_ok (rio_of step.table host) 42 _ out e in
    let place = value_ok (applied false options (first_rectangle (rectangle_of step.table host))) 47 _ out home.2 in
    let room = refuse_ok (is_full step.table) 49 _ out place.2 in
    let w = new_window step.table host home.0.next hide place.0 in
    subst (IsFit device) (same_Ok _ out room.1)
    (made_fit device w step fit (above step.table.serials) (omega arith) (applied_rect false options (first_rectangle (rectangle_of step.table host)) place.0 place.1) (rio_shown (now device step) step.table host home.0 fit.shows home.1))
  where
    above : (n : ℕ) → (n + 1 == 0) ≡ false
    above n = grind (arith, nat_tests)

-- ---- a rio in a window

-- the rios are shown, where that of one host is new
rio_hosted : (old new : World) (host at : ℕ) → Follows none (only host) old new → ShowsRio new host → ShowsRio old at → ShowsRio new at
rio_hosted old new host at f shown is = by (at == host) refl
  where
    by : (b : Bool) → (at == host) ≡ b → ShowsRio new at
    by true here = subst (ShowsRio new) (sym (eqb-true at host here)) shown
    by false here = f.rios at here is

-- a table of whose windows one hosts a rio now
host_table : (old new : World) (table : Table) (host : ℕ) → Follows none (only host) old new → ShowsRio new host → Shows old table → Shows new table
host_table old new table host f shown shows = record {
  rooted = shows.rooted;
  windows = all_of (λ v. ShowsWindow new v.serial v.r) table.windows (each_then (λ v. ShowsWindow old v.serial v.r) (λ v. ShowsWindow new v.serial v.r) (λ v is. f.windows v.serial v.r refl is) table.windows (windows_of old table shows));
  rios = all_of (λ rio. ShowsRio new rio.host) (table.root ∷ table.rios)
      (each_then (λ rio. ShowsRio old rio.host) (λ rio. ShowsRio new rio.host) (λ rio is. rio_hosted old new host rio.host f shown is) (table.root ∷ table.rios) (rios_of old table shows));
  fresh = λ serial later. f.fresh serial refl (shows.fresh serial later);
}

host_fits : (w : World) (window : ℕ) (r : Rect) (fill : Bool) → ShowsWindow w window r → ShowsRio w 0 → fits w (order.Host window fill) ≡ true
host_fits w window r fill shows root =
    both (has_window w window && has_rio w 0) (is_window_rect (at_number w (image_shown w window)).r)
    (both (has_window w window) (has_rio w 0) (shows_has w window r shows) (shows_rio w 0 root)) (host_rect w window r shows)

pub hosted_fit : (device : World) (w : Window) (step out : Step) → IsFit device step → ShowsWindow (now device step) w.serial w.r → hosted w step ≡ Ok out → IsFit device out
unfolding hosted
hosted_fit device w step out fit stands e =
    let free = refuse_ok (is_host step.table w.serial) 47 _ out e in
    let shallow = refuse_ok (nat_le 8 (length (path_of step.table w.host))) 50 _ out free.1 in
    let old = now device step in
    let o : Order = order.Host w.serial true in
    let new : World = after_order old o in
    let root = root_shown old step.table fit.shows in
    let comes = host_follows old w.serial w.r true fit.orderly stands root in
    let f : Follows none (only w.serial) old new = comes.0 in
    let shown : ShowsRio new w.serial = comes.1 in
    let more : Table = record step.table { rios = step.table.rios ++ no_windows w.serial ∷ [] } in
    let same : Shows new step.table = host_table old new step.table w.serial f shown fit.shows in
    let rios = rios_of new step.table same in
    let shows : Shows new more = record {
      rooted = same.rooted;
      windows = same.windows;
      rios = all_of (λ rio. ShowsRio new rio.host) (step.table.root ∷ step.table.rios ++ no_windows w.serial ∷ [])
          (rios.0, each_append (λ (rio : Rio). ShowsRio new rio.host) step.table.rios (no_windows w.serial ∷ []) rios.1 (shown, tt));
      fresh = same.fresh;
    } in
    subst (IsFit device) (same_Ok _ out shallow.1) (fits_more device step.orders o step.table more fit (host_fits old w.serial w.r true stands root) f.orderly shows)

-- ---- windows that move

-- The orders so far fit, and what was shown is shown still.
pub record Moves (device : World) (old new : Step) : Type 0 where
  pub fit : IsFit device new
  pub windows : (serial : ℕ) (r : Rect) → ShowsWindow (now device old) serial r → ShowsWindow (now device new) serial r
  pub rios : (host : ℕ) → ShowsRio (now device old) host → ShowsRio (now device new) host

moves_then : (device : World) (a b c : Step) → Moves device a b → Moves device b c → Moves device a c
moves_then device a b c one two = record {
  fit = two.fit;
  windows = λ serial r is. two.windows serial r (one.windows serial r is);
  rios = λ host is. two.rios host (one.rios host is);
}

moves_itself : (device : World) (a : Step) → IsFit device a → Moves device a a
moves_itself device a fit = record { fit = fit; windows = λ serial r is. is; rios = λ host is. is }

replace_fits : (w : World) (window host : ℕ) (r old : Rect) (name : List ℕ) (keep hide : Bool) → ShowsWindow w window old → ShowsRio w host → is_window_rect r ≡ true → (keep ≡ true → SameSize r old) → fits w (order.Replace window host r name keep hide) ≡ true
replace_fits w window host r old name keep hide shows rio may size =
    both (has_window w window && has_rio w host && is_window_rect r) (not keep || can_keep w window (rio_screen w host) r)
    (both (has_window w window && has_rio w host) (is_window_rect r) (both (has_window w window) (has_rio w host) (shows_has w window old shows) (shows_rio w host rio)) may) (by keep size)
  where
    by : (b : Bool) → (b ≡ true → SameSize r old) → (not b || can_keep w window (rio_screen w host) r) ≡ true
    by true size = shows_keeps w window host old r shows rio (size refl)
    by false size = refl

-- what a window was shown with is shown still, where its new image has that size
same_window : (old new : World) (serial : ℕ) (r was q : Rect) → SameSize r was → ShowsWindow old serial was → ShowsWindow new serial r → ShowsWindow old serial q → ShowsWindow new serial q
same_window old new serial r was q size had has is =
    let one : is.id ≡ had.id = same_Some is.id had.id (sym is.found ∙ had.found) in
    let image = (at_number old had.id.image).r in
    let like : SameSize q image = subst (λ (e : ImageId). SameSize q (at_number old e.image).r) one is.size in
    record {
      counted = is.counted;
      may = is.may;
      id = has.id;
      found = has.found;
      stands = has.stands;
      size = sizes q r (at_number new has.id.image).r (sizes q was r (sizes q image was like (turned was image had.size)) (turned r was size)) has.size;
      rect = has.rect;
      chan = has.chan;
    }

-- each window of a list is shown, with the new rectangle of one
each_map_windows : (old new : World) (w : Window) (r : Rect) → Follows (only w.serial) none old new → ShowsWindow new w.serial r → (ws : List Window) → Each (λ v. ShowsWindow old v.serial v.r) ws
    → Each (λ v. ShowsWindow new v.serial v.r) (in_place (renewed r w) ws)
each_map_windows old new w r f shown ws each =
    each_map (λ v. ShowsWindow old v.serial v.r) (λ v. ShowsWindow new v.serial v.r) (λ v. if v.serial == w.serial then renewed r w else v)
    (λ v is. cond_both (v.serial == w.serial) (renewed r w) v (λ (z : Window). ShowsWindow new z.serial z.r) (λ _. shown) (λ at. f.windows v.serial v.r at is)) ws each

-- a serial that has no image is not that of a window, and has none still
fresh_still : (old new : World) (window : ℕ) (r : Rect) (serial : ℕ) → Follows (only window) none old new → ShowsWindow old window r → image_id old.book manager serial ≡ None → image_id new.book manager serial ≡ None
fresh_still old new window r serial f shows free = f.fresh serial (other_serial_of old serial window r free shows) free
  where
    other_serial_of : (w : World) (serial window : ℕ) (r : Rect) → image_id w.book manager serial ≡ None → ShowsWindow w window r → (serial == window) ≡ false
    other_serial_of w serial window r free shows =
        not-true (serial == window) (λ is. absurd (let two : ◌≡◌ {A = Option ImageId} None (Some shows.id) = sym free ∙ ap (image_id w.book manager) (eqb-true serial window is) ∙ shows.found in cc))

-- a window gets another image, and the others stay
replaced_follows : (device : World) (keep : Bool) (w : Window) (r : Rect) (step : Step) → IsFit device step → ShowsWindow (now device step) w.serial w.r → ShowsRio (now device step) w.host → is_window_rect r ≡ true
    → (keep ≡ true → SameSize r w.r) → IsFit device (replaced keep w r step) × Follows (only w.serial) none (now device step) (now device (replaced keep w r step)) × ShowsWindow (now device (replaced keep w r step)) w.serial r
unfolding replaced
replaced_follows device keep w r step fit stands home may size =
    let old = now device step in
    let name = next_name step.table w in
    let o : Order = order.Replace w.serial w.host r name keep w.hidden in
    let comes = replace_follows old w.serial w.host r w.r name keep w.hidden fit.orderly may stands home in
    let new : World = after_order old o in
    let f : Follows (only w.serial) none old new = comes.0 in
    let shown : ShowsWindow new w.serial r = comes.1 in
    let fit_now = replace_fits old w.serial w.host r w.r name keep w.hidden stands home may size in
    let windows = in_place (renewed r w) step.table.windows in
    let each : Each (λ v. ShowsWindow new v.serial v.r) windows = each_map_windows old new w r f shown step.table.windows (windows_of old step.table fit.shows) in
    let shows : Shows new (record step.table { windows = windows }) = record {
      rooted = fit.shows.rooted;
      windows = all_of (λ v. ShowsWindow new v.serial v.r) windows each;
      rios = all_of (λ rio. ShowsRio new rio.host) (step.table.root ∷ step.table.rios)
          (each_then (λ rio. ShowsRio old rio.host) (λ rio. ShowsRio new rio.host) (λ rio is. f.rios rio.host refl is) (step.table.root ∷ step.table.rios) (rios_of old step.table fit.shows));
      fresh = λ serial later. fresh_still old new w.serial w.r serial f stands (fit.shows.fresh serial later);
    } in
    let is : new ≡ carried_out device (step.orders ++ o ∷ []) = sym (one_more device step.orders o fit_now) in (
      fits_more device step.orders o step.table (record step.table { windows = windows }) fit fit_now f.orderly shows,
      subst (Follows (only w.serial) none old) is f,
      subst (λ (v : World). ShowsWindow v w.serial r) is shown,
    )

still_shown : (old new : World) (w : Window) (r : Rect) (serial : ℕ) (q : Rect) (b : Bool) → (serial == w.serial) ≡ b → Follows (only w.serial) none old new → ShowsWindow new w.serial r → ShowsWindow old w.serial w.r → SameSize r w.r
    → ShowsWindow old serial q → ShowsWindow new serial q
still_shown old new w r serial q true at f has had size is =
    let here = eqb-true serial w.serial at in
    subst (λ (n : ℕ). ShowsWindow new n q) (sym here) (same_window old new w.serial r w.r q size had has (subst (λ (n : ℕ). ShowsWindow old n q) here is))
still_shown old new w r serial q false at f has had size is = f.windows serial q at is

replaced_moves : (device : World) (w : Window) (r : Rect) (step : Step) → IsFit device step → ShowsWindow (now device step) w.serial w.r → ShowsRio (now device step) w.host → is_window_rect r ≡ true → SameSize r w.r
    → Moves device step (replaced true w r step)
replaced_moves device w r step fit stands home may size =
    let done = replaced_follows device true w r step fit stands home may (λ _. size) in
    record {
      fit = done.0;
      windows = λ serial q is. still_shown (now device step) (now device (replaced true w r step)) w r serial q (serial == w.serial) refl done.1 done.2 stands size is;
      rios = λ host is. done.1.rios host refl is;
    }

-- a change that moves windows whose contents stay
abbrev KeepsMoving : World → (Window → Rect → Step → Outcome Step) → Type 0
KeepsMoving device move =
    (w : Window) (r : Rect) (step out : Step) → IsFit device step → ShowsWindow (now device step) w.serial w.r → ShowsRio (now device step) w.host → is_window_rect r ≡ true → SameSize r w.r → move w r step ≡ Ok out → Moves device step out

abbrev pub KeepsEach : World → (Window → Step → Outcome Step) → Type 0
KeepsEach device change =
    (w : Window) (step out : Step) → IsFit device step → ShowsWindow (now device step) w.serial w.r → ShowsRio (now device step) w.host → change w step ≡ Ok out → Moves device step out

carried_moves : (device : World) (move : Window → Rect → Step → Outcome Step) → KeepsMoving device move → (by : Point) → KeepsEach device (carried move by)
carried_moves device move keeps by w step out fit stands home e = by_test (is_near (shifted w.r by)) refl e
  where
    by_test : (b : Bool) → is_near (shifted w.r by) ≡ b → cond b (move w (shifted w.r by) step) (Err 47) ≡ Ok out → Moves device step out
    by_test true near e = keeps w (shifted w.r by) step out fit stands home (shifted_rect w.r by near stands.may) (shifted_size w.r by) e
    by_test false near e = absurd (let f : ◌≡◌ {A = Outcome Step} (Err 47) (Ok out) = e in cc)

-- a window of the rio of a host is shown
abbrev pub IsIn : World → ℕ → Window → Type 0
IsIn device host v = ShowsWindow device v.serial v.r × (v.host ≡ host)

pub each_moves : (device : World) (change : Window → Step → Outcome Step) → KeepsEach device change → (host : ℕ) (ws : List Window) (step out : Step) → IsFit device step → ShowsRio (now device step) host
    → Each (IsIn (now device step) host) ws → each change ws step ≡ Ok out → Moves device step out
each_moves device change keeps host [] step out fit home stand e = subst (Moves device step) (same_Ok step out e) (moves_itself device step fit)
each_moves device change keeps host (w ∷ ws) step out fit home stand e =
    let first = then_ok (change w step) (each change ws) out e in
    let one = keeps w step first.0 fit stand.0.0 (subst (ShowsRio (now device step)) (sym stand.0.1) home) first.1 in
    let rest = each_moves device change keeps host ws first.0 out one.fit (one.rios host home)
    (each_then (IsIn (now device step) host) (IsIn (now device first.0) host) (λ v is. (one.windows v.serial v.r is.0, is.1)) ws stand.1) first.2 in
    moves_then device step first.0 out one rest

pub each_reverse : (P : Window → Type 0) (ws : List Window) → Each P ws → Each P (reverse ws)
each_reverse P ws each = each_of P (reverse ws) (All-permutation P ws (reverse ws) (IsPermutation-reverse ws) (all_of P ws each))

inner_in : (w : World) (table : Table) (host : ℕ) → Shows w table → Each (IsIn w host) (reverse (windows_in table host))
inner_in w table host shows =
    each_reverse (IsIn w host) (windows_in table host)
    (each_filter (λ v. ShowsWindow w v.serial v.r) (IsIn w host) (λ v. v.host == host) (λ v at is. (is, eqb-true v.host host at)) table.windows (windows_of w table shows))

followed_moves : (device : World) (move : Window → Rect → Step → Outcome Step) → KeepsMoving device move → (host : ℕ) (r : Rect) (fill : Bool) (by : Point) (step out : Step) → IsFit device step → ShowsWindow (now device step) host r
    → followed move host fill by step ≡ Ok out → Moves device step out
followed_moves device move keeps host r fill by step out fit stands e = by_test (is_host step.table host) refl
  where
    by_test : (b : Bool) → is_host step.table host ≡ b → Moves device step out
    by_test true is =
        let old = now device step in
        let o : Order = order.Host host fill in
        let led : Step = ordered o step in
        let all : each (carried move by) (reverse (windows_in step.table host)) led ≡ Ok out = rw is at e in
        let root = root_shown old step.table fit.shows in
        let comes = host_follows old host r fill fit.orderly stands root in
        let new : World = after_order old o in
        let f : Follows none (only host) old new = comes.0 in
        let shown : ShowsRio new host = comes.1 in
        let fit_now = host_fits old host r fill stands root in
        let there = sym (one_more device step.orders o fit_now) in
        let next : IsFit device led = fits_more device step.orders o step.table step.table fit fit_now f.orderly (host_table old new step.table host f shown fit.shows) in
        let one : Moves device step led = record {
          fit = next;
          windows = λ serial q is. subst (λ (w : World). ShowsWindow w serial q) there (f.windows serial q refl is);
          rios = λ at is. subst (λ (w : World). ShowsRio w at) there (rio_hosted old new host at f shown is);
        } in
        moves_then device step led out one
        (each_moves device (carried move by) (carried_moves device move keeps by) host (reverse (windows_in step.table host)) led out next (subst (λ (w : World). ShowsRio w host) there shown) (inner_in (now device led) step.table host next.shows) all)
    by_test false is =
        let same : ◌≡◌ {A = Outcome Step} (Ok step) (Ok out) = rw is at e in
        subst (Moves device step) (same_Ok step out same) (moves_itself device step fit)

pub moved_moves : (device : World) (levels : ℕ) → KeepsMoving device (moved levels true)
unfolding moved
moved_moves device zero w r step out fit stands home may size e = subst (Moves device step) (same_Ok step out e) (moves_itself device step fit)
moved_moves device (suc levels) w r step out fit stands home may size e =
    let next : Step = replaced true w r step in
    let one = replaced_moves device w r step fit stands home may size in
    let has = (replaced_follows device true w r step fit stands home may (λ _. size)).2 in
    moves_then device step next out one (followed_moves device (moved levels true) (moved_moves device levels) w.serial r false (way w.r r) next out one.fit has e)

-- a window that gets a rectangle and keeps its contents or not
moved_fit : (device : World) (keep : Bool) (w : Window) (r : Rect) (step out : Step) → IsFit device step → ShowsWindow (now device step) w.serial w.r → ShowsRio (now device step) w.host → is_window_rect r ≡ true → (keep ≡ true → SameSize r w.r)
    → moved deepest keep w r step ≡ Ok out → IsFit device out
unfolding moved
moved_fit device keep w r step out fit stands home may size e =
    let next : Step = replaced keep w r step in
    let done = replaced_follows device keep w r step fit stands home may size in
    (followed_moves device (moved 8 true) (moved_moves device 8) w.serial r (not keep) (way w.r r) next out done.0 done.2 e).fit

pub moved_by_fit : (device : World) (keep : Bool) (options : List Choice) (w : Window) (step out : Step) → IsFit device step → ShowsWindow (now device step) w.serial w.r → ShowsRio (now device step) w.host → (keep ≡ true → All IsWay options)
    → moved_by keep options w step ≡ Ok out → IsFit device out
unfolding moved_by
moved_by_fit device keep options w step out fit stands home ways e =
    let place = value_ok (applied keep options w.r) 47 _ out e in
    moved_fit device keep w place.0 step out fit stands home (applied_rect keep options w.r place.0 place.1) (by keep ways place.1) place.2
  where
    by : (b : Bool) {r : Rect} → (b ≡ true → All IsWay options) → applied b options w.r ≡ Some r → b ≡ true → SameSize r w.r
    by true {r = r} ways e _ = applied_size options w.r r (ways refl) e
    by false ways e is = absurd cc
