-- A window of the root rio in each act of the window manager.
use Rattle.std.proofs.Common.{◌≡◌, ◌≢◌, ◌∙◌, ℕ, zero, suc, pos, ◌==◌, ◌+◌, Bool, true, false, cond, not, List, [], ◌∷◌, ◌++◌, find, filter, fold, reverse, length, nat_le, Option, Some, None, is_some, Ok, Err, refl, sym, ap, subst, arith, eqb-true, eq-eqb, ne_eqb}
use Rattle.std.specs.Option.{option_map}
use Rattle.std.proofs.lemmas.Bool.{cond_both, eqb-false}
use Rattle.std.proofs.lemmas.List.Sorted.{All-permutation, IsPermutation-reverse}
use Rattle.r9_geom.specs.declared.Rect.{Rect}
use Rattle.r9_geom.specs.declared.Point.{Point}
use Rattle.r9_geom.specs.Geometry.{is_empty, meet, shifted}
use Rattle.r9_event.specs.window.Ways.{way}
use Rattle.r9_event.specs.declared.event.rio.Note.TheVariants as note
use Rattle.r9_event.specs.declared.event.rio.Order.TheVariants as order
use Rattle.model_text.specs.text.Outcome.{Outcome}
use Rattle.model_files.specs.declared.mouse.Mouse.{Mouse}
use Rattle.model_files.specs.declared.wctl.Choice.{Choice}
use Rattle.model_files.specs.wctl.Command.{Wctl}
use Rattle.model_files.specs.wctl.Command as wctl
use Rattle.model_files.specs.wctl.Rectangle.{applied, box, is_near}
use Rattle.model_rio.specs.rio.Table.{Window, Rio, Table, Hold, Free, Held, Nobody, deepest, hold_of, is_host, made_in, no_windows, path_of, rectangle_of, rio_of, topmost, window_of, windows_in}
use Rattle.model_rio.specs.rio.Act.{Act}
use Rattle.model_rio.specs.rio.Act as act
use Rattle.model_rio.specs.rio.Step.{Step, begun, noted, ordered, with_current}
use Rattle.model_rio.specs.rio.Moving.{carried, deleted, each, followed, moved, replaced}
use Rattle.model_rio.specs.rio.Routing.{focus, given, keyed, keys_of, moused, point_of, pressed, reacted, receiver}
use Rattle.model_rio.specs.rio.Rio.{command_to, commanded, first_rectangle, hidden, hosted, is_full, made_current, moved_by, new_in, new_window, resized, rio, shown, to_bottom, to_corner, to_top, windows_off}
use Rattle.model_rio.specs.rio.Sound.{IsSound, IsSoundWindow}
use Rattle.law_shown.proofs.shown.Tests.{find-passes, refuse_ok, same_Ok, then_ok, value_ok}
use Rattle.law_shown.proofs.fitting.Lists.{Each, all_of, each_append, each_filter, each_found, each_of, each_then, fold_each}
use Rattle.law_others.specs.told.Telling.{rect_in}
use Rattle.law_others.proofs.told.Standing.{IsAmong, IsBare, IsOther, IsRooted, Stands, among_other, among_rooted, begun_stands, beside_stands, current_stands, hold_stands, no_host, rooted_later, rooted_other, small_stands}
use Rattle.law_others.proofs.told.Windows.{bottom_stands, dropped_stands, hidden_stands, made_current_stands, made_stands, own_dropped, own_made, own_replaced, replaced_stands, shown_stands, top_stands}

-- where a window is led to
pub record Leads (window : ℕ) (start : Option Rect) (step : Step) : Type 0 where
  pub now : Option Rect
  pub stands : Stands window start now step

module _ (window : ℕ) (start now : Option Rect) where
  abbrev At : Step → Type 0
  At step = Stands window start now step

  abbrev Led : Step → Type 0
  Led step = Leads window start step

  led : (step : Step) → At step → Led step
  led step is = record { now = now; stands = is }

  found_among : (p : Window → Bool) (step : Step) (v : Window) → At step → find p step.table.windows ≡ Some v → IsAmong window now v
  found_among p step v is found = each_found (IsAmong window now) p step.table.windows v is.each found

  -- ---- the mouse and the keys

  pressed_stands : (host : ℕ) (top : Option Window) (step : Step) → At step → ((v : Window) → top ≡ Some v → IsAmong window now v) → At (pressed host top step)
  pressed_stands host None step is among = hold_stands window start now host Nobody step is
  pressed_stands host (Some v) step is among =
      let up : Step = to_top v step in
      hold_stands window start now host (Held v.serial) (with_current host (Some v.serial) up)
      (current_stands window start now host (Some v.serial) up (top_stands window start now v step is (among v refl)))

  reacted_stands : (e : Mouse) (host : ℕ) (step : Step) → At step → At (reacted e host step)
  unfolding reacted
  reacted_stands e host step is = by_hold (hold_of step.table host) (e.buttons == 0) refl refl
    where
      by_hold : (hold : Hold) (released : Bool) → hold_of step.table host ≡ hold → (e.buttons == 0) ≡ released → At (reacted e host step)
      by_hold Free true at up = rw (at, up) is
      by_hold Free false at up = rw (at, up) (pressed_stands host (topmost step.table host (point_of e)) step is (λ v found. found_among _ step v is found))
      by_hold (Held serial) true at up = rw (at, up) (hold_stands window start now host Free step is)
      by_hold Nobody true at up = rw (at, up) (hold_stands window start now host Free step is)
      by_hold (Held serial) false at up = rw (at, up) is
      by_hold Nobody false at up = rw (at, up) is

  given_stands : (pass : ℕ → Step → Step) → ((host : ℕ) (step : Step) → At step → At (pass host step)) → (e : Mouse) (to : Option ℕ) (step : Step) → At step → At (given pass e to step)
  given_stands pass passes e None step is = is
  given_stands pass passes e (Some serial) step is = by_test (is_host step.table serial) refl
    where
      by_test : (b : Bool) → is_host step.table serial ≡ b → At (given pass e (Some serial) step)
      by_test true at = rw at (passes serial step is)
      by_test false at = rw at (small_stands window start now serial (note.Mouse e.x e.y e.buttons e.msec) step (λ _. tt) is)

  moused_stands : (levels : ℕ) (e : Mouse) (host : ℕ) (step : Step) → At step → At (moused levels e host step)
  unfolding moused
  moused_stands zero e host step is = is
  moused_stands (suc levels) e host step is =
      given_stands (moused levels e) (moused_stands levels e) e (receiver step.table e host (hold_of step.table host)) (reacted e host step) (reacted_stands e host step is)

  keyed_stands : (to : Option ℕ) (keys : List (List ℕ)) (step : Step) → At step → At (keyed to keys step)
  keyed_stands None keys step is = is
  keyed_stands (Some serial) [] step is = is
  keyed_stands (Some serial) (key ∷ keys) step is = keyed_stands (Some serial) keys (noted serial (note.Key key) step) (small_stands window start now serial (note.Key key) step (λ _. tt) is)

  -- ---- other windows that move

  abbrev Moves : (Window → Rect → Step → Outcome Step) → Type 0
  Moves move = (v : Window) (r : Rect) (step out : Step) → IsOther window v → At step → move v r step ≡ Ok out → At out

  carried_stands : (move : Window → Rect → Step → Outcome Step) → Moves move → (by : Point) (v : Window) (step out : Step) → IsOther window v → At step → carried move by v step ≡ Ok out → At out
  carried_stands move moves by v step out other is e = by_test (is_near (shifted v.r by)) e
    where
      by_test : (b : Bool) → cond b (move v (shifted v.r by) step) (Err 47) ≡ Ok out → At out
      by_test true e = moves v (shifted v.r by) step out other is e
      by_test false e = absurd (let f : ◌≡◌ {A = Outcome Step} (Err 47) (Ok out) = e in cc)

  each_stands : (move : Window → Rect → Step → Outcome Step) → Moves move → (by : Point) (vs : List Window) (step out : Step) → Each (IsOther window) vs → At step → each (carried move by) vs step ≡ Ok out → At out
  each_stands move moves by [] step out others is e = subst At (same_Ok step out e) is
  each_stands move moves by (v ∷ vs) step out others is e =
      let first = then_ok (carried move by v step) (each (carried move by) vs) out e in
      each_stands move moves by vs first.0 out others.1 (carried_stands move moves by v step first.0 others.0 is first.1) first.2

  -- the windows in another window are others
  inner_others : (host : ℕ) (step : Step) → host ≢ 0 → At step → Each (IsOther window) (windows_in step.table host)
  inner_others host step other is = each_filter (IsAmong window now) (IsOther window) (λ v. v.host == host) inner step.table.windows is.each
    where
      inner : (v : Window) → (v.host == host) ≡ true → IsAmong window now v → IsOther window v
      inner v at among = among_other window now v among (λ same. other (sym (eqb-true v.host host at) ∙ (among.place same).0))

  followed_stands : (move : Window → Rect → Step → Outcome Step) → Moves move → (host : ℕ) (fill : Bool) (by : Point) (step out : Step) → host ≢ 0 → host ≢ window → At step → followed move host fill by step ≡ Ok out → At out
  followed_stands move moves host fill by step out counted other is e = by_test (is_host step.table host) refl
    where
      inside : List Window
      inside = windows_in step.table host

      by_test : (b : Bool) → is_host step.table host ≡ b → At out
      by_test true at =
          let all : each (carried move by) (reverse inside) (ordered (order.Host host fill) step) ≡ Ok out = rw at at e in
          each_stands move moves by (reverse inside) (ordered (order.Host host fill) step) out
          (each_of (IsOther window) (reverse inside) (All-permutation (IsOther window) inside (reverse inside) (IsPermutation-reverse inside) (all_of (IsOther window) inside (inner_others host step counted is))))
          (beside_stands window start now (order.Host host fill) step (ne_eqb window host (λ same. other (sym same))) is) all
      by_test false at =
          let same : ◌≡◌ {A = Outcome Step} (Ok step) (Ok out) = rw at at e in
          subst At (same_Ok step out same) is

  moved_stands : (levels : ℕ) (keep : Bool) → Moves (moved levels keep)
  unfolding moved
  moved_stands zero keep v r step out other is e = subst At (same_Ok step out e) is
  moved_stands (suc levels) keep v r step out other is e =
      followed_stands (moved levels true) (moved_stands levels true) v.serial (not keep) (way v.r r) (replaced keep v r step) out other.counted other.other (replaced_stands window start now keep v r step other is) e

  -- the one in question moves alone
  own_moved : (levels : ℕ) (keep : Bool) (v : Window) (r : Rect) (step out : Step) → At step → IsRooted window now v → v.serial ≡ window → moved (suc levels) keep v r step ≡ Ok out → Stands window start (Some r) out
  unfolding moved
  own_moved levels keep v r step out is rooted same e =
      let next : Stands window start (Some r) (replaced keep v r step) = own_replaced window start now keep v r step is rooted same in
      let bare : is_host (replaced keep v r step).table v.serial ≡ false = ap (is_host (replaced keep v r step).table) same ∙ no_host (replaced keep v r step).table window next.bare in
      let done : ◌≡◌ {A = Outcome Step} (Ok (replaced keep v r step)) (Ok out) = rw bare at e in
      subst (Stands window start (Some r)) (same_Ok (replaced keep v r step) out done) next

  -- ---- windows that go

  all_go : (delete : Window → Step → Step) → ((v : Window) (step : Step) → IsOther window v → At step → At (delete v step)) → (vs : List Window) (step : Step) → Each (IsOther window) vs → At step
      → At (fold (λ step v. delete v step) step vs)
  all_go delete deletes [] step others is = is
  all_go delete deletes (v ∷ vs) step others is = all_go delete deletes vs (delete v step) others.1 (deletes v step others.0 is)

  deleted_stands : (levels : ℕ) (v : Window) (step : Step) → IsOther window v → At step → At (deleted levels v step)
  unfolding deleted
  deleted_stands zero v step other is = is
  deleted_stands (suc levels) v step other is =
      let inner : Each (IsOther window) (made_in step.table v.serial) = fold_each (IsOther window) (windows_in step.table v.serial) [] tt (inner_others v.serial step other.counted is) in
      dropped_stands window start now v (fold (λ step u. deleted levels u step) step (made_in step.table v.serial)) other (all_go (deleted levels) (deleted_stands levels) (made_in step.table v.serial) step inner is)

  no_inner : (vs : List Window) → Each (IsAmong window now) vs → filter (λ v. v.host == window) vs ≡ []
  no_inner [] each = refl
  no_inner (v ∷ vs) each = ap (λ (b : Bool). cond b (v ∷ filter (λ u. u.host == window) vs) (filter (λ u. u.host == window) vs)) (ne_eqb v.host window each.0.apart) ∙ no_inner vs each.1

  own_deleted : (levels : ℕ) (v : Window) (step : Step) → At step → IsAmong window now v → v.serial ≡ window → Stands window start None (deleted (suc levels) v step)
  unfolding deleted
  own_deleted levels v step is among same =
      let none : windows_in step.table v.serial ≡ [] = ap (windows_in step.table) same ∙ no_inner step.table.windows is.each in
      rw none (own_dropped window start now v step is among same)

  -- ---- commands

  -- the window is not the next one that is made
  abbrev pub IsNotNext : Table → Type 0
  IsNotNext table = table.serials + 1 ≢ window

  new_stands : (host : ℕ) (options : List Choice) (hide : Bool) (step out : Step) → IsNotNext step.table → is_host step.table host ≡ true → At step → new_in host options hide step ≡ Ok out → At out
  unfolding new_in
  new_stands host options hide step out other there is e =
      let home = value_ok (rio_of step.table host) 42 _ out e in
      let place = value_ok (applied false options (first_rectangle (rectangle_of step.table host))) 47 _ out home.2 in
      let room = refuse_ok (is_full step.table) 49 _ out place.2 in
      let v = new_window step.table host home.0.next hide place.0 in
      subst At (same_Ok _ out room.1) (made_stands window start now v step (record {
        other = other;
        counted = λ none. absurd (omega (arith, none));
        apart = λ same. absurd (let two : true ≡ false = sym there ∙ ap (is_host step.table) same ∙ no_host step.table window is.bare in cc);
      }) is)

  home_there : (o : Option Rio) (rio : Rio) → o ≡ Some rio → is_some o ≡ true
  home_there o rio e = ap is_some e

  moved_by_led : (keep : Bool) (options : List Choice) (v : Window) (step out : Step) → IsAmong window now v → At step → moved_by keep options v step ≡ Ok out → Led out
  unfolding moved_by
  moved_by_led keep options v step out among is e =
      let place = value_ok (applied keep options v.r) 47 _ out e in by (v.serial == window) refl place.0 place.2
    where
      by : (b : Bool) → (v.serial == window) ≡ b → (r : Rect) → moved deepest keep v r step ≡ Ok out → Led out
      by true same r e =
          let own = eqb-true v.serial window same in
          record { now = Some r; stands = own_moved 8 keep v r step out is (among_rooted window now v among (among.place own).0) own e }
      by false same r e = led out (moved_stands deepest keep v r step out (among_other window now v among (eqb-false v.serial window same)) is e)

  deleted_led : (v : Window) (step : Step) → IsAmong window now v → At step → Led (deleted deepest v step)
  deleted_led v step among is = by (v.serial == window) refl
    where
      by : (b : Bool) → (v.serial == window) ≡ b → Led (deleted deepest v step)
      by true same = record { now = None; stands = own_deleted 8 v step is among (eqb-true v.serial window same) }
      by false same = led (deleted deepest v step) (deleted_stands deepest v step (among_other window now v among (eqb-false v.serial window same)) is)

  hosted_stands : (v : Window) (step out : Step) → At step → is_host out.table window ≡ false → hosted v step ≡ Ok out → At out
  unfolding hosted
  hosted_stands v step out is bare e =
      let free = refuse_ok (is_host step.table v.serial) 47 _ out e in
      let shallow = refuse_ok (nat_le 8 (length (path_of step.table v.host))) 50 _ out free.1 in
      let done = same_Ok _ out shallow.1 in
      subst At done (record {
        tells = (beside_stands window start now (order.Host v.serial true) step (ne_eqb window v.serial (λ same. other same done)) is).tells;
        lives = is.lives;
        each = is.each;
        bare = each_append (λ rio. (rio.host == window) ≡ false) (step.table.root ∷ step.table.rios) (no_windows v.serial ∷ []) is.bare (ne_eqb v.serial window (λ same. other (sym same) done), tt);
      })
    where
      there : (rios : List Rio) → is_some (find (λ rio. rio.host == window) (rios ++ no_windows window ∷ [])) ≡ true
      there [] = ap (λ (b : Bool). is_some (cond b (Some (no_windows window)) None)) (eq-eqb window window refl)
      there (rio ∷ rios) = cond_both (rio.host == window) (Some rio) (find (λ r. r.host == window) (rios ++ no_windows window ∷ [])) (λ o. is_some o ≡ true) (λ _. refl) (λ _. there rios)

      next : Step
      next = ordered (order.Host v.serial true) (record step { table = record step.table { rios = step.table.rios ++ no_windows v.serial ∷ [] } })

      other : window ≡ v.serial → next ≡ out → ⊥
      other same done =
          let two : true ≡ false =
          sym (there (step.table.root ∷ step.table.rios)) ∙ ap (λ (n : ℕ). is_some (find (λ (rio : Rio). rio.host == window) (step.table.root ∷ step.table.rios ++ no_windows n ∷ []))) same
          ∙ ap (λ (s : Step). is_host s.table window) done ∙ bare in cc

  -- a command that makes a window makes another
  abbrev pub Makes : Table → Wctl → Type 0
  Makes table (wctl.New options hide) = IsNotNext table
  Makes table _ = Unit {0}

  -- what must be so where a command starts a rio
  abbrev pub IfHost : Wctl → Type 0 → Type 0
  IfHost wctl.Host P = P
  IfHost _ P = Unit {0}

  done_led : (next out : Step) → Led next → ◌≡◌ {A = Outcome Step} (Ok next) (Ok out) → Led out
  done_led next out is e = subst Led (same_Ok next out e) is

  commanded_led : (what : Wctl) (v : Window) (step out : Step) → Makes step.table what → is_host step.table v.host ≡ true → IfHost what (is_host out.table window ≡ false) → IsAmong window now v → At step → commanded what v step ≡ Ok out → Led out
  commanded_led (wctl.New options hide) v step out makes home bare among is e = led out (new_stands v.host options hide step out makes home is e)
  commanded_led (wctl.Resize options) v step out makes home bare among is e = moved_by_led false options v step out among is e
  commanded_led (wctl.Move options) v step out makes home bare among is e = moved_by_led true options v step out among is e
  commanded_led wctl.Top v step out makes home bare among is e = done_led (to_top v step) out (led (to_top v step) (top_stands window start now v step is among)) e
  commanded_led wctl.Bottom v step out makes home bare among is e = done_led (to_bottom v step) out (led (to_bottom v step) (bottom_stands window start now v step is among)) e
  commanded_led wctl.Hide v step out makes home bare among is e = done_led (hidden v step) out (led (hidden v step) (hidden_stands window start now v step is among)) e
  commanded_led wctl.Unhide v step out makes home bare among is e = done_led (shown v step) out (led (shown v step) (shown_stands window start now v step is among)) e
  commanded_led wctl.Current v step out makes home bare among is e = done_led (made_current v step) out (led (made_current v step) (made_current_stands window start now v step is among)) e
  commanded_led wctl.Delete v step out makes home bare among is e = done_led (deleted deepest v step) out (deleted_led v step among is) e
  commanded_led (wctl.Scroll scrolls) v step out makes home bare among is e = done_led step out (led step is) e
  commanded_led wctl.Set v step out makes home bare among is e = done_led step out (led step is) e
  commanded_led wctl.Host v step out makes home bare among is e = led out (hosted_stands v step out is bare e)

  command_to_led : (serial : ℕ) (what : Wctl) (step out : Step) → Makes step.table what → IsSound step.table → IfHost what (is_host out.table window ≡ false) → At step → command_to serial what step ≡ Ok out → Led out
  unfolding command_to
  command_to_led serial what step out makes ok bare is e =
      let found = value_ok (window_of step.table serial) 42 _ out e in
      let sound = each_found (IsSoundWindow step.table) (λ (v : Window). v.serial == serial) step.table.windows found.0 (each_of (IsSoundWindow step.table) step.table.windows ok.windows) found.1 in
      commanded_led what found.0 step out makes sound.housed bare (found_among (λ (v : Window). v.serial == serial) step found.0 is found.1) is found.2

-- ---- another size of the display

-- windows of the root rio move to the corner, one after the other
each_led : (window : ℕ) (start : Option Rect) (vs : List Window) (now : Option Rect) (step out : Step) → Each (IsRooted window now) vs → Stands window start now step → each (moved_by true to_corner) vs step ≡ Ok out
    → Leads window start out
unfolding moved_by
each_led window start [] now step out all is e = record { now = now; stands = subst (Stands window start now) (same_Ok step out e) is }
each_led window start (v ∷ vs) now step out all is e =
    let first = then_ok (moved_by true to_corner v step) (each (moved_by true to_corner) vs) out e in
    let place = value_ok (applied true to_corner v.r) 47 _ first.0 first.1 in
    by (v.serial == window) refl place.0 first.0 place.2 (λ later rooted stands. each_led window start vs later first.0 out rooted stands first.2)
  where
    by : (b : Bool) → (v.serial == window) ≡ b → (r : Rect) (next : Step) → moved deepest true v r step ≡ Ok next
        → ((later : Option Rect) → Each (IsRooted window later) vs → Stands window start later next → Leads window start out) → Leads window start out
    by true same r next e rest =
        rest (Some r) (each_then (IsRooted window now) (IsRooted window (Some r)) (rooted_later window now r) vs all.1) (own_moved window start now 8 true v r step next is all.0 (eqb-true v.serial window same) e)
    by false same r next e rest =
        rest now all.1 (moved_stands window start now deepest true v r step next (rooted_other window now v all.0 (eqb-false v.serial window same)) is e)

off_rooted : (window : ℕ) (start : Option Rect) (r : Rect) (step : Step) → Stands window start start step → Each (IsRooted window start) (windows_off r step.table)
off_rooted window start r step is =
    let inside = windows_in step.table 0 in
    let off = filter (λ v. is_empty (meet v.r r)) inside in
    let rooted = each_filter (IsAmong window start) (IsRooted window start) (λ v. v.host == 0) (λ v at among. among_rooted window start v among (eqb-true v.host 0 at)) step.table.windows is.each in
    let lie = each_filter (IsRooted window start) (IsRooted window start) (λ v. is_empty (meet v.r r)) (λ v _ is. is) inside rooted in
    each_of (IsRooted window start) (reverse off) (All-permutation (IsRooted window start) off (reverse off) (IsPermutation-reverse off) (all_of (IsRooted window start) off lie))

resized_led : (window : ℕ) (start : Option Rect) (width height : ℕ) (step out : Step) → Stands window start start step → resized width height step ≡ Ok out → Leads window start out
unfolding resized
resized_led window start width height step out is e =
    let r = box (pos 0) (pos 0) (pos width) (pos height) in
    let next : Step = record step { table = record step.table { r = r } } in
    each_led window start (windows_off r step.table) start (ordered (order.Size width height) next) out (off_rooted window start r step is)
    (beside_stands window start start (order.Size width height) next tt (record { tells = is.tells; lives = is.lives; each = is.each; bare = is.bare })) e

-- ---- each act

-- an act that makes a window makes another
abbrev pub MakesOther : (window : ℕ) → Table → Act → Type 0
MakesOther window table (act.New host options hide) = table.serials + 1 ≢ window
MakesOther window table (act.Command at (wctl.New options hide)) = table.serials + 1 ≢ window
MakesOther window table _ = Unit {0}

-- what must be so where an act starts a rio
abbrev pub IfHosts : Act → Type 0 → Type 0
IfHosts (act.Command at wctl.Host) P = P
IfHosts _ P = Unit {0}

-- Each act leads a window of the root rio from where it was by orders and notes that go together, where no rio starts in it.
pub act_leads : (window : ℕ) (table : Table) (a : Act) (out : Step) → IsSound table → IsBare table window → MakesOther window table a → IfHosts a (is_host out.table window ≡ false) → rio table a ≡ Ok out
    → Leads window (rect_in table window) out
unfolding new_in
act_leads window table a out ok is makes bare = by a makes bare
  where
    start : Option Rect
    start = rect_in table window

    first : Stands window start start (begun table)
    first = begun_stands table window ok is

    by : (a : Act) → MakesOther window table a → IfHosts a (is_host out.table window ≡ false) → rio table a ≡ Ok out → Leads window start out
    by (act.New host options hide) makes bare e =
        let home = value_ok (rio_of table host) 42 _ out e in
        record { now = start; stands = new_stands window start start host options hide (begun table) out makes (ap is_some home.1) first e }
    by (act.Command at (wctl.New options hide)) makes bare e = command_to_led window start start at (wctl.New options hide) (begun table) out makes ok bare first e
    by (act.Command at (wctl.Resize options)) makes bare e = command_to_led window start start at (wctl.Resize options) (begun table) out tt ok bare first e
    by (act.Command at (wctl.Move options)) makes bare e = command_to_led window start start at (wctl.Move options) (begun table) out tt ok bare first e
    by (act.Command at wctl.Top) makes bare e = command_to_led window start start at wctl.Top (begun table) out tt ok bare first e
    by (act.Command at wctl.Bottom) makes bare e = command_to_led window start start at wctl.Bottom (begun table) out tt ok bare first e
    by (act.Command at wctl.Hide) makes bare e = command_to_led window start start at wctl.Hide (begun table) out tt ok bare first e
    by (act.Command at wctl.Unhide) makes bare e = command_to_led window start start at wctl.Unhide (begun table) out tt ok bare first e
    by (act.Command at wctl.Current) makes bare e = command_to_led window start start at wctl.Current (begun table) out tt ok bare first e
    by (act.Command at wctl.Delete) makes bare e = command_to_led window start start at wctl.Delete (begun table) out tt ok bare first e
    by (act.Command at (wctl.Scroll scrolls)) makes bare e = command_to_led window start start at (wctl.Scroll scrolls) (begun table) out tt ok bare first e
    by (act.Command at wctl.Set) makes bare e = command_to_led window start start at wctl.Set (begun table) out tt ok bare first e
    by (act.Command at wctl.Host) makes bare e = command_to_led window start start at wctl.Host (begun table) out tt ok bare first e
    by (act.Mouse pointer) makes bare e = done_led window start start (moused deepest pointer 0 (begun table)) out (record { now = start; stands = moused_stands window start start deepest pointer 0 (begun table) first }) e
    by (act.Keys bytes) makes bare e =
        done_led window start start (keyed (focus deepest table 0) (keys_of bytes) (begun table)) out (record { now = start; stands = keyed_stands window start start (focus deepest table 0) (keys_of bytes) (begun table) first }) e
    by (act.Gone at) makes bare e = command_to_led window start start at wctl.Delete (begun table) out tt ok bare first e
    by (act.Size width height) makes bare e = resized_led window start width height (begun table) out first e

-- ---- a new window of the root rio

no_new : (table : Table) → IsSound table → window_of table (table.serials + 1) ≡ None
no_new table ok = by (window_of table (table.serials + 1)) refl
  where
    by : (o : Option Window) → window_of table (table.serials + 1) ≡ o → o ≡ None
    by None is = refl
    by (Some v) is =
        let sound = each_found (IsSoundWindow table) (λ (u : Window). u.serial == table.serials + 1) table.windows v (each_of (IsSoundWindow table) table.windows ok.windows) is in
        let given = sound.given in
        let same : v.serial ≡ table.serials + 1 = eqb-true v.serial (table.serials + 1) (find-passes (λ (u : Window). u.serial == table.serials + 1) table.windows v is) in
        absurd (omega (arith, given, same))

-- The next window that is made in the root rio comes with the order and the note that tell of it.
pub next_leads : (table : Table) (options : List Choice) (hide : Bool) (out : Step) → IsSound table → is_host table (table.serials + 1) ≡ false → rio table (act.New 0 options hide) ≡ Ok out
    → Leads (table.serials + 1) None out
unfolding new_in
next_leads table options hide out ok bare e =
    let next = table.serials + 1 in
    let none = no_new table ok in
    let at : rect_in table next ≡ None = ap (option_map (λ (w : Window). w.r)) none in
    let first = begun_stands table next ok (record { root = λ v found. absurd (let two : ◌≡◌ {A = Option Window} None (Some v) = sym none ∙ found in cc); bare = bare }) in
    let start : Stands next None None (begun table) = subst (λ (o : Option Rect). Stands next o o (begun table)) at first in
    let home = value_ok (rio_of table 0) 42 _ out e in
    let place = value_ok (applied false options (first_rectangle (rectangle_of table 0))) 47 _ out home.2 in
    let room = refuse_ok (is_full table) 49 _ out place.2 in
    let v = new_window table 0 home.0.next hide place.0 in
    subst (Leads next None) (same_Ok _ out room.1)
    (record { now = Some v.r; stands = own_made next None None v (begun table) start refl refl (λ zero. absurd (omega (arith, zero))) (λ zero. absurd (omega (arith, zero))) refl })

-- where a window is led to it is in the table
pub led_to : (window : ℕ) (start : Option Rect) (step : Step) (is : Leads window start step) → rect_in step.table window ≡ is.now
led_to window start step is = by (window_of step.table window) refl is.now is.stands
  where
    by : (o : Option Window) → window_of step.table window ≡ o → (now : Option Rect) → Stands window start now step → option_map (λ w. w.r) o ≡ now
    by None at None stands = refl
    by None at (Some r) stands = absurd (let two : false ≡ true = ap is_some (sym at) ∙ stands.lives in cc)
    by (Some v) at now stands =
        ((each_found (IsAmong window now) (λ (u : Window). u.serial == window) step.table.windows v stands.each at).place (eqb-true v.serial window (find-passes (λ (u : Window). u.serial == window) step.table.windows v at))).1

pub led_root : (window : ℕ) (start : Option Rect) (step : Step) → Leads window start step → (v : Window) → window_of step.table window ≡ Some v → v.host ≡ 0
led_root window start step is v at =
    ((each_found (IsAmong window is.now) (λ (u : Window). u.serial == window) step.table.windows v is.stands.each at).place (eqb-true v.serial window (find-passes (λ (u : Window). u.serial == window) step.table.windows v at))).0
