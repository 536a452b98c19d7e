-- The orders of what a desk asks for are on windows, and give each a name by its number.
use Rattle.std.proofs.Common.{◌≡◌, ◌∙◌, ℕ, ◌<◌, ◌==◌, ◌+◌, Bool, true, false, cond, List, [], ◌∷◌, ◌++◌, find, length, Option, Some, None, Ok, refl, sym, ap, subst, arith, eq-eqb}
use Rattle.std.specs.Option.{option_map_or}
use Rattle.std.proofs.lemmas.Bool.{cond_both}
use Rattle.r9_geom.specs.declared.Rect.{Rect}
use Rattle.r9_event.specs.declared.event.rio.Note.TheVariants as note
use Rattle.r9_event.specs.declared.event.rio.Order.TheVariants as order
use Rattle.model_text.specs.text.Outcome.{Outcome}
use Rattle.model_files.specs.declared.wctl.Choice.{Choice}
use Rattle.model_files.specs.declared.wctl.Choice.TheVariants.{R}
use Rattle.model_files.specs.wctl.Command as wctl
use Rattle.model_files.specs.wctl.Rectangle.{applied, is_window}
use Rattle.model_rio.specs.rio.Act as act
use Rattle.model_rio.specs.rio.Table.{Rio, Table, Window, deepest, name_by, path_of, path_up, rectangle_of, rio_of, window_of}
use Rattle.model_rio.specs.rio.Step.{Step, begun, in_place, next_generation, noted, ordered, retired, with_windows}
use Rattle.model_rio.specs.rio.Moving.{deleted, dropped, next_name, replaced}
use Rattle.model_rio.specs.rio.Routing.{moused}
use Rattle.model_rio.specs.rio.Rio.{command_to, commanded, entered, first_rectangle, hidden, is_full, made, moved_by, new_in, new_window, outside, rio}
use Rattle.law_shown.proofs.shown.Tests.{refuse_ok, same_Ok, same_Some, value_ok}
use Rattle.law_shown.proofs.fitting.Lists.{Each, each_found}
use Rattle.law_shown.proofs.fitting.Stepping.{retired_orders}
use Rattle.model_client.specs.declared.desk.Act.{Act}
use Rattle.model_client.specs.declared.desk.Act.TheVariants.{Delete, Hide, Move, New, Nothing, Pass, Resize}
use Rattle.model_client.specs.desk.Table.{Desk}
use Rattle.law_desk.specs.piloted.Following.{Follows}
use Rattle.law_desk.proofs.piloted.Acts.{moved_to, no_inner}
use Rattle.law_desk.proofs.piloted.Plain.{AreOwn, are_own}
use Rattle.law_desk.specs.steered.Steered.{IsActOf}
use Rattle.law_menus.proofs.done.Fine.{AreFine, counted, current_orders, more_fine, moused_fine, none_fine}

-- ---- the windows of the root rio

-- a window of a table with no rio but the root's
record IsOwn (w : Window) : Type 0 where
  host : w.host ≡ 0
  number : w.number ≡ w.serial
  some : 0 < w.serial

found_own : (table : Table) (n : ℕ) (w : Window) → AreOwn table → window_of table n ≡ Some w → IsOwn w
found_own table n w own is = record {
  host = each_found (λ v. v.host ≡ 0) (λ v. v.serial == n) table.windows w own.root is;
  number = each_found (λ v. v.number ≡ v.serial) (λ v. v.serial == n) table.windows w own.own is;
  some = each_found (λ v. 0 < v.serial) (λ v. v.serial == n) table.windows w own.counted is;
}

no_root : (ws : List Window) → Each (λ w. 0 < w.serial) ws → find (λ w. w.serial == 0) ws ≡ None
no_root [] each = refl
no_root (w ∷ ws) each = rw (counted w.serial each.0) (no_root ws each.1)

path_root : (table : Table) → AreOwn table → path_of table 0 ≡ []
unfolding path_up
path_root table own = ap (λ (o : Option Window). option_map_or (λ w. path_up 8 table w.host ++ w.number ∷ []) o []) (no_root table.windows own.counted)

-- ---- a window that goes, or is hidden

deleted_fine : (table : Table) (w : Window) → AreOwn table → IsOwn w → AreFine (deleted deepest w (begun table)).orders
unfolding deleted dropped
deleted_fine table w own is =
    rw (no_inner table.windows w.serial own.root is.some)
    (more_fine (retired w.host w.serial (begun table)).orders (order.Drop w.serial) (counted w.serial is.some) tt (subst AreFine (sym (retired_orders w.host w.serial (begun table))) none_fine))

hidden_fine : (table : Table) (w : Window) → IsOwn w → AreFine (hidden w (begun table)).orders
unfolding hidden
hidden_fine table w is =
    let away : Step = noted w.serial (note.Hidden true) (ordered (order.Place w.serial outside) (with_windows (in_place (record w { hidden = true })) (begun table))) in
    cond_both w.hidden (begun table) (retired w.host w.serial away) (λ (s : Step). AreFine s.orders) (λ _. none_fine)
    (λ _. subst AreFine (sym (retired_orders w.host w.serial away)) (more_fine [] (order.Place w.serial outside) (counted w.serial is.some) tt none_fine))

-- ---- another rectangle

next_name_is : (table : Table) (w : Window) → AreOwn table → IsOwn w → next_name table w ≡ name_by (w.serial ∷ []) (next_generation w.generation)
next_name_is table w own is =
    (λ i. name_by (path_of table (is.host i) ++ is.number i ∷ []) (next_generation w.generation))
    ∙ ap (λ (path : List ℕ). name_by (path ++ w.serial ∷ []) (next_generation w.generation)) (path_root table own)

replaced_fine : (table : Table) (keep : Bool) (w : Window) (place : Rect) → AreOwn table → IsOwn w → AreFine (replaced keep w place (begun table)).orders
unfolding replaced
replaced_fine table keep w place own is =
    more_fine [] (order.Replace w.serial w.host place (next_name table w) keep w.hidden) (counted w.serial is.some) (next_generation w.generation, next_name_is table w own is) none_fine

moved_fine : (table : Table) (keep : Bool) (options : List Choice) (w : Window) (out : Step) → table.root.host ≡ 0 → table.rios ≡ [] → AreOwn table → IsOwn w → moved_by keep options w (begun table) ≡ Ok out
    → AreFine out.orders
unfolding moved_by
moved_fine table keep options w out root alone own is e =
    let place = value_ok (applied keep options w.r) 47 _ out e in
    subst (λ (s : Step). AreFine s.orders) (same_Ok (replaced keep w place.0 (begun table)) out (sym (moved_to table keep w place.0 root alone is.some) ∙ place.2)) (replaced_fine table keep w place.0 own is)

-- ---- a new window

first_rio : (table : Table) → table.root.host ≡ 0 → rio_of table 0 ≡ Some table.root
first_rio table root = ap (λ (b : Bool). cond b (Some table.root) (find (λ (rio : Rio). rio.host == 0) table.rios)) (eq-eqb table.root.host 0 root)

place_is : (b : Bool) (r p : Rect) → cond b (Some r) None ≡ Some p → p ≡ r
place_is true r p e = sym (same_Some r p e)
place_is false r p e = absurd cc

made_orders : (table : Table) (next : ℕ) (r : Rect) → (made (new_window table 0 next false r) (begun table)).orders
    ≡ order.Make (table.serials + 1) 0 r (name_by (path_of table 0 ++ next ∷ []) 1) false (length (path_of table 0 ++ next ∷ [])) ∷ []
unfolding made
made_orders table next r =
    let w : Window = new_window table 0 next false r in
    let path : List ℕ = path_of table 0 ++ next ∷ [] in
    let name : List ℕ = name_by path 1 in
    current_orders 0 (Some w.serial) (noted w.serial (note.Made next w.serial name r (length path)) (ordered (order.Make w.serial 0 r name false (length path)) (entered w (begun table))))

pub new_orders : (d : Desk) (table : Table) (r : Rect) (out : Step) → Follows d table → rio table (act.New 0 (R r ∷ []) false) ≡ Ok out → out.orders ≡ order.Make d.next 0 r (name_by (d.next ∷ []) 1) false 1 ∷ []
unfolding new_in applied
new_orders d table r out is e =
    let home = value_ok (rio_of table 0) 42 _ out e in
    let place = value_ok (applied false (R r ∷ []) (first_rectangle (rectangle_of table 0))) 47 _ out home.2 in
    let room = refuse_ok (is_full table) 49 _ out place.2 in
    let here : home.0 ≡ table.root = same_Some home.0 table.root (sym home.1 ∙ first_rio table is.sound.root) in
    let next : home.0.next ≡ d.next = ap (λ (rio : Rio). rio.next) here ∙ is.next in
    let at : place.0 ≡ r = place_is (is_window r) r place.0 place.1 in
    let path : path_of table 0 ≡ [] = path_root table (are_own d table is) in
    ap (λ (s : Step). s.orders) (sym (same_Ok (made (new_window table 0 home.0.next false place.0) (begun table)) out room.1))
    ∙ made_orders table home.0.next place.0
    ∙ (λ i. order.Make (is.given i) 0 (at i) (name_by (path i ++ next i ∷ []) 1) false (length (path i ++ next i ∷ [])) ∷ [])

-- ---- each act

command_fine : (table : Table) (n : ℕ) (what : wctl.Wctl) (out : Step) → AreOwn table → ((w : Window) → IsOwn w → commanded what w (begun table) ≡ Ok out → AreFine out.orders) → rio table (act.Command n what) ≡ Ok out
    → AreFine out.orders
unfolding command_to
command_fine table n what out own fine e = let found = value_ok (window_of table n) 42 _ out e in fine found.0 (found_own table n found.0 own found.1) found.2

done_fine : (next out : Step) → AreFine next.orders → ◌≡◌ {A = Outcome Step} (Ok next) (Ok out) → AreFine out.orders
done_fine next out fine e = subst (λ (s : Step). AreFine s.orders) (same_Ok next out e) fine

pub acts_fine : (d : Desk) (table : Table) (asks : Act) (how : act.Act) (out : Step) → Follows d table → IsActOf asks how → rio table how ≡ Ok out → AreFine out.orders
acts_fine d table asks how out is does = by asks does
  where
    own : AreOwn table
    own = are_own d table is

    moves : (keep : Bool) (options : List Choice) (w : Window) → IsOwn w → moved_by keep options w (begun table) ≡ Ok out → AreFine out.orders
    moves keep options w one e = moved_fine table keep options w out is.sound.root is.alone own one e

    from : (a : act.Act) → how ≡ a → (rio table a ≡ Ok out → AreFine out.orders) → rio table how ≡ Ok out → AreFine out.orders
    from a same fine e = fine (ap (rio table) (sym same) ∙ e)

    by : (asks : Act) → IsActOf asks how → rio table how ≡ Ok out → AreFine out.orders
    by Nothing does e = absurd does
    by (Pass raised) does e =
        from (act.Mouse does.0) does.1 (done_fine (moused deepest does.0 0 (begun table)) out (moused_fine deepest does.0 0 (begun table) (record { windows = own.counted; orders = none_fine })).orders) e
    by (New r) does e =
        from (act.New 0 (R r ∷ []) false) does
        (λ is_new. subst AreFine (sym (new_orders d table r out is is_new))
        (let given = is.given in more_fine [] (order.Make d.next 0 r (name_by (d.next ∷ []) 1) false 1) (counted d.next (omega (arith, given))) (1, refl) none_fine)) e
    by (Resize window r) does e = from (act.Command window (wctl.Resize (R r ∷ []))) does (command_fine table window (wctl.Resize (R r ∷ [])) out own (λ w one e. moves false (R r ∷ []) w one e)) e
    by (Move pane way) does e = from (act.Command pane.number (wctl.Move does.0)) does.1 (command_fine table pane.number (wctl.Move does.0) out own (λ w one e. moves true does.0 w one e)) e
    by (Delete window) does e =
        from (act.Command window wctl.Delete) does (command_fine table window wctl.Delete out own (λ w one e. done_fine (deleted deepest w (begun table)) out (deleted_fine table w own one) e)) e
    by (Hide pane) does e =
        from (act.Command pane.number wctl.Hide) does (command_fine table pane.number wctl.Hide out own (λ w one e. done_fine (hidden w (begun table)) out (hidden_fine table w one) e)) e
