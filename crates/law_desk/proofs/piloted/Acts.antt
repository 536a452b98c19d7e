-- What a desk asks of the windows is done to rio's as it is to those of the desk's table.
use Rattle.std.proofs.Common.{◌≡◌, ◌∙◌, ℕ, ◌<◌, ◌==◌, ◌+◌, ◌-◌, ◌^◌, Bool, true, false, cond, not, List, [], ◌∷◌, filter, fold, length, suc, ℤ, ◌+ℤ◌, ◌-ℤ◌, Option, Some, None, Ok, refl, sym, ap, subst, arith, ne_eqb}
use Rattle.std.proofs.lemmas.Bool.{cond_both, lt-leb, or_from}
use Rattle.std.proofs.lemmas.Int.{ints}
use Rattle.std.proofs.lemmas.List.{length-map}
use Rattle.std.proofs.lemmas.List.Filters.{length-filter_both}
use Rattle.r9_geom.specs.declared.Point.{Point}
use Rattle.r9_geom.specs.declared.Rect.{Rect}
use Rattle.r9_geom.specs.Geometry.{shifted}
use Rattle.r9_event.specs.declared.event.rio.Note.TheVariants as note
use Rattle.r9_event.specs.declared.event.rio.Order.TheVariants as order
use Rattle.model_text.specs.text.Outcome.{Outcome}
use Rattle.model_files.specs.declared.wctl.Choice.{Choice}
use Rattle.model_files.specs.declared.wctl.Amount.{Amount}
use Rattle.model_files.specs.declared.wctl.Choice.TheVariants.{Minx, Miny, R}
use Rattle.model_files.specs.wctl.Command as wctl
use Rattle.model_files.specs.wctl.Rectangle.{after_choice, applied, given, is_window}
use Rattle.model_rio.specs.rio.Act as act
use Rattle.model_rio.specs.rio.Table.{Hold, Rio, Table, Window, deepest}
use Rattle.model_rio.specs.rio.Step.{Step, begun, in_place, noted, ordered, retired, with_windows, without}
use Rattle.model_rio.specs.rio.Moving.{deleted, dropped, moved, renewed, replaced}
use Rattle.model_rio.specs.rio.Rio.{command_to, commanded, hidden, is_full, made, moved_by, new_in, new_window, next_number, outside, rio}
use Rattle.model_rio.specs.rio.Sound.{window_in}
use Rattle.model_rio.proofs.rio.Soundness.{step_sound}
use Rattle.law_shown.proofs.fitting.Lists.{Apart, Each, apart_of, each_filter, each_found, each_map}
use Rattle.model_client.specs.declared.desk.Act.{Act}
use Rattle.model_client.specs.declared.desk.Act.TheVariants.{Delete, Hide, Move, New, Resize}
use Rattle.model_client.specs.declared.desk.Mode.{Mode}
use Rattle.model_client.specs.declared.desk.Pane.{Pane}
use Rattle.model_client.specs.desk.Table.{Desk, done, with_rect}
use Rattle.model_clients.specs.piloted.Following.{pane_by, pane_of}
use Rattle.law_desk.specs.piloted.Following.{Follows, is_free, is_over}
use Rattle.law_desk.proofs.piloted.Panes.{IsSeen, count_more, hidden_gone, hidden_more, hidden_placed, only_seen, seen_gone, seen_hidden, seen_placed, seen_window}
use Rattle.law_desk.proofs.piloted.Plain.{AreOwn, IsAt, are_own, current_at, follows_at, gone_at, plain, plain_is}

-- the act is not refused, and the windows after it are those of the desk's table
pub record IsDone (d : Desk) (asks : Act) (o : Outcome Step) : Type 0 where
  pub step : Step
  pub is : o ≡ Ok step
  pub follows : Follows (done asks d) step.table

-- another mode, and other last buttons
pub moves_on : (d : Desk) (table : Table) (mode : Mode) (last : ℕ) → Follows d table → is_over mode last ≡ is_over d.mode d.last → Follows (record d { mode = mode; last = last }) table
moves_on d table mode last is same = record {
  sound = is.sound;
  alone = is.alone;
  own = is.own;
  visible = is.visible;
  hidden = is.hidden;
  count = is.count;
  next = is.next;
  given = is.given;
  hold = is.hold ∙ sym same;
}

-- how many windows there are
pub how_many : (d : Desk) (table : Table) → Follows d table → length table.windows ≡ length d.visible + length d.hidden
how_many d table is =
    let parts = length-filter_both (λ (w : Window). not w.hidden) (λ w. w.hidden) both table.windows in
    let seen : length (filter (λ (w : Window). not w.hidden) table.windows) ≡ length d.visible = sym (length-map (filter (λ (w : Window). not w.hidden) table.windows) pane_of) ∙ ap length is.visible in
    let hidden : length (filter (λ (w : Window). w.hidden) table.windows) ≡ length d.hidden = sym (length-map (filter (λ (w : Window). w.hidden) table.windows) pane_of) ∙ is.count in
    omega (arith, parts, seen, hidden)
  where
    both : (w : Window) → w.hidden ≡ not (not w.hidden)
    both w = by w.hidden
      where
        by : (b : Bool) → b ≡ not (not b)
        by true = refl
        by false = refl

-- ---- a new window

new_is : (r : Rect) (serials next : ℕ) (current : Option ℕ) (hold : Hold) (ws : List Window) (place : Rect) → is_window place ≡ true → is_full (plain r serials next current hold ws) ≡ false
    → new_in 0 (R place ∷ []) false (begun (plain r serials next current hold ws)) ≡ Ok (made (new_window (plain r serials next current hold ws) 0 next false place) (begun (plain r serials next current hold ws)))
unfolding new_in applied
new_is r serials next current hold ws place fits room = rw (fits, room) refl

made_at : (r : Rect) (serials next : ℕ) (current : Option ℕ) (hold : Hold) (ws : List Window) (place : Rect)
    → IsAt r (serials + 1) (next_number next) (is_free hold) (new_window (plain r serials next current hold ws) 0 next false place ∷ ws) (made (new_window (plain r serials next current hold ws) 0 next false place) (begun (plain r serials next current hold ws))).table
unfolding made
made_at r serials next current hold ws place =
    current_at r (serials + 1) (next_number next) (is_free hold) (new_window (plain r serials next current hold ws) 0 next false place ∷ ws) (Some (serials + 1)) _
    (record { current = current; hold = hold; is = refl; held = refl })

pub new_done : (d : Desk) (table : Table) (place : Rect) → Follows d table → is_window place ≡ true → length d.visible + length d.hidden < 64 → d.next < 2 ^ 32 - 1
    → IsDone d (New place) (rio table (act.New 0 (R place ∷ []) false))
unfolding done
new_done d table place is fits few early =
    let own = are_own d table is in
    let many = how_many d table is in
    let given = is.given in
    let room : is_full table ≡ false = or_from _ _ (lt-leb 64 (length table.windows) (omega (arith, many, few))) (lt-leb (2 ^ 32 - 1) table.serials (omega (arith, given, early))) in
    let t : Table = plain table.r table.serials table.root.next table.root.current table.root.hold table.windows in
    let same : table ≡ t = plain_is table is.sound.root is.alone in
    let w : Window = new_window t 0 table.root.next false place in
    let out : Step = made w (begun t) in
    let asked : rio table (act.New 0 (R place ∷ []) false) ≡ Ok out =
    ap (λ (from : Table). rio from (act.New 0 (R place ∷ []) false)) same
    ∙ new_is table.r table.serials table.root.next table.root.current table.root.hold table.windows place fits (sym (ap is_full same) ∙ room)
    in
    let numbered : table.root.next ≡ table.serials + 1 = is.next ∙ sym is.given in
    let next : next_number table.root.next ≡ d.next + 1 = let now = is.next in omega (arith, now, early) in
    record {
      step = out;
      is = asked;
      follows = follows_at table.r (table.serials + 1) (next_number table.root.next) (is_free table.root.hold) (w ∷ table.windows) _ out.table
          (step_sound table (act.New 0 (R place ∷ []) false) out is.sound asked)
          (made_at table.r table.serials table.root.next table.root.current table.root.hold table.windows place)
          (numbered, own.own)
          (λ i. record { number = is.next i; r = place } ∷ is.visible i)
          is.hidden
          is.count
          next
          (omega (arith, given))
          is.hold;
    }

-- ---- a window of the desk's table

-- a command to it is done to the window
command_is : (table : Table) (n : ℕ) (w : Window) (what : wctl.Wctl) → window_in table.windows n ≡ Some w → rio table (act.Command n what) ≡ commanded what w (begun table)
unfolding command_to
command_is table n w what found = rw found refl

pub no_inner : (ws : List Window) (s : ℕ) → Each (λ w. w.host ≡ 0) ws → 0 < s → filter (λ w. w.host == s) ws ≡ []
no_inner [] s root some = refl
no_inner (w ∷ ws) s root some = rw (ap (λ n. n == s) root.0 ∙ ne_eqb 0 s (λ same. omega (arith, some, same))) (no_inner ws s root.1 some)

module _ (r : Rect) (serials next : ℕ) (current : Option ℕ) (hold : Hold) (ws : List Window) where
  deleted_at : (w : Window) → w.host ≡ 0 → 0 < w.serial → Each (λ v. v.host ≡ 0) ws → is_free hold ≡ true
      → IsAt r serials next true (without w.serial ws) (deleted deepest w (begun (plain r serials next current hold ws))).table
  unfolding deleted dropped
  deleted_at w host some root free =
      let at = gone_at r serials next ws w.serial (begun (plain r serials next current hold ws)) (record { current = current; hold = hold; is = refl; held = free }) in
      let gone : (retired w.host w.serial (begun (plain r serials next current hold ws))).table ≡ plain r serials next at.current at.hold ws =
      ap (λ (h : ℕ). (retired h w.serial (begun (plain r serials next current hold ws))).table) host ∙ at.is
      in
      rw (no_inner ws w.serial root some) (record {
        current = at.current;
        hold = at.hold;
        is = ap (λ (t : Table). record t { rios = filter (λ (rio : Rio). not (rio.host == w.serial)) t.rios; windows = without w.serial t.windows }) gone;
        held = at.held;
      })

  moved_is : (keep : Bool) (w : Window) (place : Rect) → 0 < w.serial
      → moved deepest keep w place (begun (plain r serials next current hold ws)) ≡ Ok (replaced keep w place (begun (plain r serials next current hold ws)))
  unfolding moved replaced
  moved_is keep w place some = rw (ne_eqb 0 w.serial (λ same. omega (arith, some, same))) refl

  replaced_at : (keep : Bool) (w : Window) (place : Rect) → IsAt r serials next (is_free hold) (in_place (renewed place w) ws) (replaced keep w place (begun (plain r serials next current hold ws))).table
  unfolding replaced
  replaced_at keep w place = record { current = current; hold = hold; is = refl; held = refl }

-- what holds of a window that a desk has
record IsHere (d : Desk) (table : Table) (n : ℕ) (pane : Pane) : Type 0 where
  own : AreOwn table
  apart : Apart table.windows
  window : IsSeen table.windows n pane
  host : window.window.host ≡ 0
  counted : 0 < window.window.serial
  found : window_in table.windows window.window.serial ≡ Some window.window
  alone : Each (λ v. (v.serial == window.window.serial) ≡ true → v.hidden ≡ false) table.windows

is_here : (d : Desk) (table : Table) (n : ℕ) (pane : Pane) → Follows d table → pane_by n d.visible ≡ Some pane → IsHere d table n pane
is_here d table n pane is e =
    let own = are_own d table is in
    let apart = apart_of table.windows is.sound.serials in
    let seen = seen_window table.windows n pane apart own.own (ap (pane_by n) is.visible ∙ e) in
    let found : window_in table.windows seen.window.serial ≡ Some seen.window = ap (window_in table.windows) seen.serial ∙ seen.found in
    record {
      own = own;
      apart = apart;
      window = seen;
      host = each_found (λ v. v.host ≡ 0) (λ v. v.serial == n) table.windows seen.window own.root seen.found;
      counted = each_found (λ v. 0 < v.serial) (λ v. v.serial == n) table.windows seen.window own.counted seen.found;
      found = found;
      alone = only_seen table.windows seen.window apart found seen.seen;
    }

pub delete_done : (d : Desk) (table : Table) (n : ℕ) (pane : Pane) → Follows d table → pane_by n d.visible ≡ Some pane → is_over d.mode d.last ≡ true
    → IsDone d (Delete n) (rio table (act.Command n wctl.Delete))
unfolding done
delete_done d table n pane is e over =
    let here = is_here d table n pane is e in
    let w : Window = here.window.window in
    let asked : rio table (act.Command n wctl.Delete) ≡ Ok (deleted deepest w (begun table)) = command_is table n w wctl.Delete here.window.found in
    let at = subst (λ (t : Table). IsAt table.r table.serials table.root.next true (without w.serial table.windows) (deleted deepest w (begun t)).table) (sym (plain_is table is.sound.root is.alone))
    (deleted_at table.r table.serials table.root.next table.root.current table.root.hold table.windows w here.host here.counted here.own.root (is.hold ∙ over)) in
    record {
      step = deleted deepest w (begun table);
      is = asked;
      follows = follows_at table.r table.serials table.root.next true (without w.serial table.windows) _ (deleted deepest w (begun table)).table
          (step_sound table (act.Command n wctl.Delete) (deleted deepest w (begun table)) is.sound asked)
          at
          (each_filter (λ v. v.number ≡ v.serial) (λ v. v.number ≡ v.serial) (λ v. not (v.serial == w.serial)) (λ v _ same. same) table.windows here.own.own)
          (seen_gone table.windows w.serial here.own.own ∙ (λ i. filter (λ (p : Pane). not (p.number == here.window.serial i)) (is.visible i)))
          (λ number. ap (pane_by number) (hidden_gone table.windows w here.apart here.found here.window.seen) ∙ is.hidden number)
          (ap length (hidden_gone table.windows w here.apart here.found here.window.seen) ∙ is.count)
          is.next
          is.given
          (sym over);
    }

-- ---- another rectangle

own_placed : (ws : List Window) (w : Window) → w.number ≡ w.serial → Each (λ v. v.number ≡ v.serial) ws → Each (λ v. v.number ≡ v.serial) (in_place w ws)
own_placed ws w numbered own =
    each_map (λ v. v.number ≡ v.serial) (λ v. v.number ≡ v.serial) (λ v. cond (v.serial == w.serial) w v) (λ v same. cond_both (v.serial == w.serial) w v (λ u. u.number ≡ u.serial) (λ _. numbered) (λ _. same)) ws own

-- the window of a desk stands elsewhere
placed_follows : (d : Desk) (table : Table) (n : ℕ) (pane : Pane) (keep : Bool) (place : Rect) (is : Follows d table) (e : pane_by n d.visible ≡ Some pane) (asks : act.Act) → rio table asks ≡ Ok (replaced keep (is_here d table n pane is e).window.window place (begun table))
    → Follows (record d { visible = with_rect n place d.visible }) (replaced keep (is_here d table n pane is e).window.window place (begun table)).table
placed_follows d table n pane keep place is e asks asked =
    let here = is_here d table n pane is e in
    let w : Window = here.window.window in
    let at = subst (λ (t : Table). IsAt table.r table.serials table.root.next (is_free table.root.hold) (in_place (renewed place w) table.windows) (replaced keep w place (begun t)).table) (sym (plain_is table is.sound.root is.alone))
    (replaced_at table.r table.serials table.root.next table.root.current table.root.hold table.windows keep w place) in
    let numbered : w.number ≡ n = here.window.numbered ∙ here.window.serial in
    follows_at table.r table.serials table.root.next (is_free table.root.hold) (in_place (renewed place w) table.windows) (record d { visible = with_rect n place d.visible }) (replaced keep w place (begun table)).table
    (step_sound table asks (replaced keep w place (begun table)) is.sound asked)
    at
    (own_placed table.windows (renewed place w) here.window.numbered here.own.own)
    (seen_placed table.windows (renewed place w) here.alone here.own.own here.window.seen here.window.numbered ∙ (λ i. with_rect (numbered i) place (is.visible i)))
    (λ number. ap (pane_by number) (hidden_placed table.windows (renewed place w) here.alone here.window.seen) ∙ is.hidden number)
    (ap length (hidden_placed table.windows (renewed place w) here.alone here.window.seen) ∙ is.count)
    is.next
    is.given
    is.hold

pub moved_to : (table : Table) (keep : Bool) (w : Window) (place : Rect) → table.root.host ≡ 0 → table.rios ≡ [] → 0 < w.serial → moved deepest keep w place (begun table) ≡ Ok (replaced keep w place (begun table))
moved_to table keep w place root alone some =
    subst (λ (t : Table). moved deepest keep w place (begun t) ≡ Ok (replaced keep w place (begun t))) (sym (plain_is table root alone))
    (moved_is table.r table.serials table.root.next table.root.current table.root.hold table.windows keep w place some)

resized_by : (w : Window) (place : Rect) (step : Step) → is_window place ≡ true → moved_by false (R place ∷ []) w step ≡ moved deepest false w place step
unfolding moved_by applied
resized_by w place step fits = rw fits refl

pub resize_done : (d : Desk) (table : Table) (n : ℕ) (pane : Pane) (place : Rect) → Follows d table → pane_by n d.visible ≡ Some pane → is_window place ≡ true
    → IsDone d (Resize n place) (rio table (act.Command n (wctl.Resize (R place ∷ []))))
unfolding done
resize_done d table n pane place is e fits =
    let here = is_here d table n pane is e in
    let w : Window = here.window.window in
    let asked : rio table (act.Command n (wctl.Resize (R place ∷ []))) ≡ Ok (replaced false w place (begun table)) =
    command_is table n w (wctl.Resize (R place ∷ [])) here.window.found ∙ resized_by w place (begun table) fits ∙ moved_to table false w place is.sound.root is.alone here.counted
    in
    record { step = replaced false w place (begun table); is = asked; follows = placed_follows d table n pane false place is e (act.Command n (wctl.Resize (R place ∷ []))) asked }

-- ---- by so much

beside : (m x d : ℤ) → m +ℤ ((x +ℤ d) -ℤ x) ≡ m +ℤ d
beside m x d = omega (arith, ints)

-- both options, one after the other, shift the rectangle
shifted_by : (r : Rect) (a b : Amount) (by : Point) → given r.min.x a ≡ r.min.x +ℤ by.x → given r.min.y b ≡ r.min.y +ℤ by.y → is_window (shifted r by) ≡ true
    → applied true (Minx a ∷ Miny b ∷ []) r ≡ Some (shifted r by)
unfolding applied
shifted_by r a b by x y fits =
    let right : r.max.x +ℤ (given r.min.x a -ℤ r.min.x) ≡ r.max.x +ℤ by.x = ap (λ (n : ℤ). r.max.x +ℤ (n -ℤ r.min.x)) x ∙ beside r.max.x r.min.x by.x in
    let bottom : r.max.y +ℤ (given r.min.y b -ℤ r.min.y) ≡ r.max.y +ℤ by.y = ap (λ (n : ℤ). r.max.y +ℤ (n -ℤ r.min.y)) y ∙ beside r.max.y r.min.y by.y in
    let is : fold (after_choice true) r (Minx a ∷ Miny b ∷ []) ≡ shifted r by = λ i. record { min = record { x = x i; y = y i }; max = record { x = right i; y = bottom i } } in
    ap (λ (place : Rect). cond (is_window place) (Some place) None) is ∙ rw fits refl

moved_along : (w : Window) (a b : Amount) (place : Rect) (step : Step) → applied true (Minx a ∷ Miny b ∷ []) w.r ≡ Some place → moved_by true (Minx a ∷ Miny b ∷ []) w step ≡ moved deepest true w place step
unfolding moved_by
moved_along w a b place step fits = rw fits refl

pub move_done : (d : Desk) (table : Table) (pane : Pane) (by : Point) (a b : Amount) → Follows d table → pane_by pane.number d.visible ≡ Some pane
    → given pane.r.min.x a ≡ pane.r.min.x +ℤ by.x → given pane.r.min.y b ≡ pane.r.min.y +ℤ by.y → is_window (shifted pane.r by) ≡ true
    → IsDone d (Move pane by) (rio table (act.Command pane.number (wctl.Move (Minx a ∷ Miny b ∷ []))))
unfolding done
move_done d table pane by a b is e x y fits =
    let here = is_here d table pane.number pane is e in
    let w : Window = here.window.window in
    let place : Rect = shifted pane.r by in
    let options : List Choice = Minx a ∷ Miny b ∷ [] in
    let shifts : applied true options w.r ≡ Some place = ap (λ (p : Pane). applied true options p.r) here.window.is ∙ shifted_by pane.r a b by x y fits in
    let asked : rio table (act.Command pane.number (wctl.Move options)) ≡ Ok (replaced true w place (begun table)) =
    command_is table pane.number w (wctl.Move options) here.window.found ∙ moved_along w a b place (begun table) shifts ∙ moved_to table true w place is.sound.root is.alone here.counted
    in
    record { step = replaced true w place (begun table); is = asked; follows = placed_follows d table pane.number pane true place is e (act.Command pane.number (wctl.Move options)) asked }

-- ---- out of sight

hidden_at : (r : Rect) (serials next : ℕ) (current : Option ℕ) (hold : Hold) (ws : List Window) (w : Window) → w.hidden ≡ false → w.host ≡ 0 → is_free hold ≡ true
    → IsAt r serials next true (in_place (record w { hidden = true }) ws) (hidden w (begun (plain r serials next current hold ws))).table
unfolding hidden
hidden_at r serials next current hold ws w seen host free =
    let before : Step = noted w.serial (note.Hidden true) (ordered (order.Place w.serial outside) (with_windows (in_place (record w { hidden = true })) (begun (plain r serials next current hold ws)))) in
    let at = gone_at r serials next (in_place (record w { hidden = true }) ws) w.serial before (record { current = current; hold = hold; is = refl; held = free }) in
    rw seen (record { current = at.current; hold = at.hold; is = ap (λ (h : ℕ). (retired h w.serial before).table) host ∙ at.is; held = at.held })

pub hide_done : (d : Desk) (table : Table) (pane : Pane) → Follows d table → pane_by pane.number d.visible ≡ Some pane → is_over d.mode d.last ≡ true
    → IsDone d (Hide pane) (rio table (act.Command pane.number wctl.Hide))
unfolding done
hide_done d table pane is e over =
    let here = is_here d table pane.number pane is e in
    let w : Window = here.window.window in
    let gone : Window = record w { hidden = true } in
    let asked : rio table (act.Command pane.number wctl.Hide) ≡ Ok (hidden w (begun table)) = command_is table pane.number w wctl.Hide here.window.found in
    let at = subst (λ (t : Table). IsAt table.r table.serials table.root.next true (in_place gone table.windows) (hidden w (begun t)).table) (sym (plain_is table is.sound.root is.alone))
    (hidden_at table.r table.serials table.root.next table.root.current table.root.hold table.windows w here.window.seen here.host (is.hold ∙ over)) in
    record {
      step = hidden w (begun table);
      is = asked;
      follows = follows_at table.r table.serials table.root.next true (in_place gone table.windows) _ (hidden w (begun table)).table
          (step_sound table (act.Command pane.number wctl.Hide) (hidden w (begun table)) is.sound asked)
          at
          (own_placed table.windows gone here.window.numbered here.own.own)
          (seen_hidden table.windows gone refl ∙ seen_gone table.windows w.serial here.own.own ∙ (λ i. filter (λ (p : Pane). not (p.number == here.window.serial i)) (is.visible i)))
          (λ number. hidden_more number table.windows gone w here.apart here.alone here.own.own refl here.window.numbered here.found
          ∙ (λ i. cond ((here.window.is i).number == number) (Some (here.window.is i)) (is.hidden number i)))
          (count_more table.windows gone w here.apart here.alone refl here.found ∙ ap suc is.count)
          is.next
          is.given
          (sym over);
    }
