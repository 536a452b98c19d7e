-- A step on whose way each name is that of its window, where no window comes or goes.
use Rattle.std.proofs.Common.{◌≡◌, ◌<◌, ◌^◌, ◌∙◌, ℕ, Bool, true, false, cond, List, [], ◌∷◌, ◌++◌, fold, Option, Some, None, refl, sym, ap, subst, eqb-true, eq-eqb}
use Rattle.std.specs.Prelude.{◌==◌, All, is_some, not, if◌then◌else◌}
use Rattle.std.specs.Map.{keys_of}
use Rattle.std.specs.Str.{bytes_eq}
use Rattle.std.proofs.lemmas.Bool.{cond_both}
use Rattle.std.proofs.lemmas.List.Elements.{All-weaker}
use Rattle.std.proofs.lemmas.List.Sums.{fold-append}
use Rattle.std.proofs.lemmas.Slice.Eq.{bytes_eq-Decides}
use Rattle.r9_geom.specs.declared.Rect.{Rect}
use Rattle.r9_event.specs.declared.event.rio.Note.{Note}
use Rattle.r9_event.specs.declared.event.rio.Note.TheVariants as note
use Rattle.r9_event.specs.declared.event.rio.Order.{Order}
use Rattle.r9_event.specs.declared.event.rio.Order.TheVariants as order
use Rattle.model_text.specs.map.Ascending.{Ascend}
use Rattle.model_rio.specs.window.Pane.{Pane}
use Rattle.model_draw_parts.specs.declared.images.Tie.{Tie}
use Rattle.model_draw_parts.specs.images.Book.{Book}
use Rattle.model_draw_parts.specs.images.Release.{is_tied_by}
use Rattle.model_draw.specs.draw.World.{World}
use Rattle.model_draw.specs.draw.Orders as draw
use Rattle.model_draw.specs.draw.Orders.{carried_out, manager}
use Rattle.model_rio.specs.rio.Table.{Window, Rio, Table, Hold, Nobody, current_of, hold_of, name_by, path_of, window_of}
use Rattle.model_rio.specs.rio.Step.{Step, in_place, is_held, is_same, lowered, next_generation, not_current, noted, ordered, raised, retired, told_current, with_current, with_hold, with_rio, with_windows, without}
use Rattle.model_rio.specs.rio.Moving.{next_name, renewed, replaced}
use Rattle.model_rio.specs.rio.Rio.{hidden, made_current, outside, shown, to_bottom, to_top}
use Rattle.model_rio.specs.rio.Sound.{IsSound, window_in}
use Rattle.law_shown.proofs.shown.Tests.{both}
use Rattle.law_shown.proofs.fitting.Lists.{Each}
use Rattle.law_shown.proofs.fitting.Stepping.{each_in_place, each_lowered, each_raised}
use Rattle.model_world.specs.Desktop.{panes_told}
use Rattle.law_strangers.specs.followed.Devices.{AllFree, IsFree, NamesFree}
use Rattle.law_strangers.proofs.followed.Noted.{all_order}
use Rattle.law_isolation.specs.names.Named.{IsKept, IsNameOf, IsWindowTie}
use Rattle.law_isolation.proofs.names.Spelled.{name_kept}
use Rattle.law_isolation.proofs.names.Placing.{StandsIn, all_same, names_apart, path_on}
use Rattle.law_others.proofs.tied.Orders.{GivesIn, ordered_keeps}
use Rattle.law_isolation.proofs.names.Filed.{AllFiles, Tells, told_keeps}

-- ---- which windows live

-- where another window stands in a window's place
in_place_lives : (w : Window) (ws : List Window) (n : ℕ) → is_some (window_in ws n) ≡ true → is_some (window_in (in_place w ws) n) ≡ true
in_place_lives w [] n e = e
in_place_lives w (v ∷ ws) n e = by (v.serial == w.serial) refl (in_place_lives w ws n) e
  where
    found : (b : Bool) (u x : Window) → (is_some (window_in ws n) ≡ true → is_some (window_in (in_place w ws) n) ≡ true) → is_some (cond b (Some u) (window_in ws n)) ≡ true → is_some (cond b (Some x) (window_in (in_place w ws) n)) ≡ true
    found true u x later e = refl
    found false u x later e = later e

    by : (b : Bool) → (v.serial == w.serial) ≡ b → (is_some (window_in ws n) ≡ true → is_some (window_in (in_place w ws) n) ≡ true)
        → is_some (cond (v.serial == n) (Some v) (window_in ws n)) ≡ true → is_some (cond ((cond b w v).serial == n) (Some (cond b w v)) (window_in (in_place w ws) n)) ≡ true
    by true is later e = found (w.serial == n) v w later (subst (λ (k : ℕ). is_some (cond (k == n) (Some v) (window_in ws n)) ≡ true) (eqb-true v.serial w.serial is) e)
    by false is later e = found (v.serial == n) v v later e

pub without_lives : (gone : ℕ) (ws : List Window) (n : ℕ) → (gone == n) ≡ false → window_in (without gone ws) n ≡ window_in ws n
without_lives gone [] n other = refl
without_lives gone (v ∷ ws) n other = by (v.serial == gone) refl (without_lives gone ws n other)
  where
    by : (b : Bool) → (v.serial == gone) ≡ b → window_in (without gone ws) n ≡ window_in ws n → window_in (cond (not b) (v ∷ without gone ws) (without gone ws)) n ≡ cond (v.serial == n) (Some v) (window_in ws n)
    by true is rest = rest ∙ sym (ap (λ (b : Bool). cond b (Some v) (window_in ws n)) (ap (λ (k : ℕ). k == n) (eqb-true v.serial gone is) ∙ other))
    by false is rest = ap (λ (o : Option Window). cond (v.serial == n) (Some v) o) rest

raised_lives : (w : Window) (ws : List Window) (n : ℕ) → is_some (window_in ws n) ≡ true → is_some (window_in (raised w ws) n) ≡ true
raised_lives w ws n e = by (w.serial == n) refl
  where
    by : (b : Bool) → (w.serial == n) ≡ b → is_some (cond b (Some w) (window_in (without w.serial ws) n)) ≡ true
    by true is = refl
    by false is = ap is_some (without_lives w.serial ws n is) ∙ e

last_lives : (us : List Window) (w : Window) (n : ℕ) → (is_some (window_in us n) ≡ true) → is_some (window_in (us ++ w ∷ []) n) ≡ true
last_lives [] w n e = absurd cc
last_lives (u ∷ us) w n e = by (u.serial == n) (last_lives us w n) e
  where
    by : (b : Bool) → (is_some (window_in us n) ≡ true → is_some (window_in (us ++ w ∷ []) n) ≡ true) → is_some (cond b (Some u) (window_in us n)) ≡ true → is_some (cond b (Some u) (window_in (us ++ w ∷ []) n)) ≡ true
    by true later e = refl
    by false later e = later e

at_last : (us : List Window) (w : Window) (n : ℕ) → (w.serial == n) ≡ true → is_some (window_in (us ++ w ∷ []) n) ≡ true
at_last [] w n is = rw is refl
at_last (u ∷ us) w n is = by (u.serial == n) (at_last us w n is)
  where
    by : (b : Bool) → is_some (window_in (us ++ w ∷ []) n) ≡ true → is_some (cond b (Some u) (window_in (us ++ w ∷ []) n)) ≡ true
    by true later = refl
    by false later = later

lowered_lives : (w : Window) (ws : List Window) (n : ℕ) → is_some (window_in ws n) ≡ true → is_some (window_in (lowered w ws) n) ≡ true
lowered_lives w ws n e = by (w.serial == n) refl
  where
    by : (b : Bool) → (w.serial == n) ≡ b → is_some (window_in (lowered w ws) n) ≡ true
    by true is = at_last (without w.serial ws) w n is
    by false is = last_lives (without w.serial ws) w n (ap is_some (without_lives w.serial ws n is) ∙ e)

-- ---- one order more

pub free_more : (window : ℕ) (orders : List Order) (device : World) (o : Order) → AllFree window device orders → NamesFree window (carried_out device orders).book o → AllFree window device (orders ++ o ∷ [])
free_more window [] device o all free = (free, tt)
free_more window (p ∷ orders) device o all free = (all.0, free_more window orders (draw.ordered device p) o all.1 free)

pub carried_more : (device : World) (orders : List Order) (o : Order) → carried_out device (orders ++ o ∷ []) ≡ draw.ordered (carried_out device orders) o
carried_more device orders o = fold-append draw.ordered device orders (o ∷ [])

-- ---- a step

-- `large`: a table in which each window stands.
module _ (large : Table) (ok : IsSound large) (few : large.serials < 2 ^ 32) (device : World) (panes : List (ℕ × Pane)) (ascend : Ascend (keys_of panes)) where
  abbrev pub Tied : Tie → Type 0
  Tied t = IsKept t.name → IsWindowTie large t

  pub record Stands (step : Step) : Type 0 where
    pub serials : step.table.serials ≡ large.serials
    pub each : Each (StandsIn large) step.table.windows
    pub lives : (n : ℕ) → is_some (window_of large n) ≡ true → is_some (window_in step.table.windows n) ≡ true
    pub ties : All Tied (carried_out device step.orders).book.ties
    pub free : (window : ℕ) → AllFree window device step.orders
    pub files : AllFiles (IsNameOf large) (fold panes_told panes step.notes)

  -- ---- notes and orders

  pub noted_stands : (at : ℕ) (n : Note) (step : Step) → Tells (IsNameOf large) at n → Stands step → Stands (noted at n step)
  noted_stands at n step tells is = record {
    serials = is.serials;
    each = is.each;
    lives = is.lives;
    ties = is.ties;
    free = is.free;
    files = subst (AllFiles (IsNameOf large)) (sym (fold-append panes_told panes step.notes ((at, n) ∷ [])))
        (told_keeps (IsNameOf large) (fold panes_told panes step.notes) at n (all_order step.notes panes ascend) tells is.files);
  }

  pub ordered_stands : (o : Order) (step : Step) → GivesIn Tied o → ((window : ℕ) → NamesFree window (carried_out device step.orders).book o) → Stands step → Stands (ordered o step)
  ordered_stands o step gives free is = record {
    serials = is.serials;
    each = is.each;
    lives = is.lives;
    ties = subst (λ (w : World). All Tied w.book.ties) (sym (carried_more device step.orders o)) (ordered_keeps Tied (carried_out device step.orders) o gives is.ties);
    free = λ window. free_more window step.orders device o (is.free window) (free window);
    files = is.files;
  }

  windows_stand : (change : List Window → List Window) (step : Step) → Each (StandsIn large) (change step.table.windows)
      → ((n : ℕ) → is_some (window_in step.table.windows n) ≡ true → is_some (window_in (change step.table.windows) n) ≡ true) → Stands step → Stands (with_windows change step)
  windows_stand change step each lives is = record { serials = is.serials; each = each; lives = λ n there. lives n (is.lives n there); ties = is.ties; free = is.free; files = is.files }

  pub rio_stands : (host : ℕ) (change : Rio → Rio) (step : Step) → Stands step → Stands (with_rio host change step)
  rio_stands host change step is = record { serials = is.serials; each = is.each; lives = is.lives; ties = is.ties; free = is.free; files = is.files }

  pub rios_stand : (rios : List Rio) (step : Step) → Stands step → Stands (record step { table = record step.table { rios = rios } })
  rios_stand rios step is = record { serials = is.serials; each = is.each; lives = is.lives; ties = is.ties; free = is.free; files = is.files }

  -- ---- the current window

  told_stands : (o : Option ℕ) (is : Bool) (step : Step) → Stands step → Stands (told_current o is step)
  told_stands None current step is = is
  told_stands (Some serial) current step is = noted_stands serial (note.Current current) step tt is

  pub current_stands : (host : ℕ) (new : Option ℕ) (step : Step) → Stands step → Stands (with_current host new step)
  unfolding with_current
  current_stands host new step is =
      let old = current_of step.table host in
      let next : Step = with_rio host (λ rio. record rio { current = new }) step in
      cond_both (is_same old new) step (told_current new true (told_current old false next)) Stands (λ _. is)
      (λ _. told_stands new true (told_current old false next) (told_stands old false next (rio_stands host (λ rio. record rio { current = new }) step is)))

  pub hold_stands : (host : ℕ) (hold : Hold) (step : Step) → Stands step → Stands (with_hold host hold step)
  hold_stands host hold step is = rio_stands host (λ rio. record rio { hold = hold }) step is

  retired_stands : (host serial : ℕ) (step : Step) → Stands step → Stands (retired host serial step)
  unfolding retired
  retired_stands host serial step is =
      let idle = not_current host serial step in
      let still : Stands idle = cond_both (is_same (current_of step.table host) (Some serial)) (with_current host None step) step Stands (λ _. current_stands host None step is) (λ _. is) in
      cond_both (is_held serial (hold_of idle.table host)) (with_hold host Nobody idle) idle Stands (λ _. hold_stands host Nobody idle still) (λ _. still)

  -- ---- windows that are raised, lowered, hidden and shown

  -- another state of a window that stands there
  stands_hidden : (w : Window) (hide : Bool) → StandsIn large w → StandsIn large (record w { hidden = hide })
  stands_hidden w hide at = record { there = at.there; found = at.found; host = at.host; number = at.number }

  pub top_stands : (w : Window) (step : Step) → StandsIn large w → Stands step → Stands (to_top w step)
  top_stands w step at is =
      ordered_stands (order.Raise w.serial) (with_windows (raised w) step) tt (λ window. tt)
      (windows_stand (raised w) step (each_raised (StandsIn large) w step.table.windows at is.each) (raised_lives w step.table.windows) is)

  pub bottom_stands : (w : Window) (step : Step) → StandsIn large w → Stands step → Stands (to_bottom w step)
  bottom_stands w step at is =
      ordered_stands (order.Lower w.serial) (with_windows (lowered w) step) tt (λ window. tt)
      (windows_stand (lowered w) step (each_lowered (StandsIn large) w step.table.windows at is.each) (lowered_lives w step.table.windows) is)

  pub hidden_stands : (w : Window) (step : Step) → StandsIn large w → Stands step → Stands (hidden w step)
  unfolding hidden
  hidden_stands w step at is =
      let away : Window = record w { hidden = true } in
      let placed : Step = with_windows (in_place away) step in
      let put : Step = ordered (order.Place w.serial outside) placed in
      let there : Step = noted w.serial (note.Hidden true) put in
      let one : Stands placed = windows_stand (in_place away) step (each_in_place (StandsIn large) away step.table.windows (stands_hidden w true at) is.each) (in_place_lives away step.table.windows) is in
      let two : Stands there = noted_stands w.serial (note.Hidden true) put tt (ordered_stands (order.Place w.serial outside) placed tt (λ window. tt) one) in
      cond_both w.hidden step (retired w.host w.serial there) Stands (λ _. is) (λ _. retired_stands w.host w.serial there two)

  pub shown_stands : (w : Window) (step : Step) → StandsIn large w → Stands step → Stands (shown w step)
  unfolding shown
  shown_stands w step at is =
      let back : Window = record w { hidden = false } in
      let placed : Step = ordered (order.Place w.serial w.r.min) step in
      let there : Step = noted w.serial (note.Hidden false) placed in
      let one : Stands there = noted_stands w.serial (note.Hidden false) placed tt (ordered_stands (order.Place w.serial w.r.min) step tt (λ window. tt) is) in
      let up : Stands (to_top back there) = top_stands back there (stands_hidden w false at) one in
      cond_both w.hidden (with_current w.host (Some w.serial) (to_top back there)) step Stands (λ _. current_stands w.host (Some w.serial) (to_top back there) up) (λ _. is)

  pub made_current_stands : (w : Window) (step : Step) → StandsIn large w → Stands step → Stands (made_current w step)
  made_current_stands w step at is =
      cond_both w.hidden (shown w step) (with_current w.host (Some w.serial) step) Stands (λ _. shown_stands w step at is) (λ _. current_stands w.host (Some w.serial) step is)

  -- ---- names that orders give

  -- a tie of the name, by the manager's id of the window
  pub gives_tied : (at : ℕ) (name : List ℕ) → IsNameOf large at name → (number i : ℕ) → Tied (record { name = name; number = number; image = i; client = manager; id = at })
  gives_tied at name of number i kept = record { by = refl; name = of }

  pub name_free : (book : Book) (at : ℕ) (name : List ℕ) → All Tied book.ties → IsNameOf large at name → (window : ℕ) → at ≡ window → IsFree book window name
  name_free book at name ties of window is = record {
    free = All-weaker Tied (λ t. bytes_eq t.name name ≡ true → is_tied_by manager window t ≡ true) free book.ties ties;
    kept = kept;
  }
    where
      kept : IsKept name
      kept = subst IsKept (sym of.is) (name_kept (path_of large at) of.generation)

      free : (t : Tie) → Tied t → bytes_eq t.name name ≡ true → is_tied_by manager window t ≡ true
      free t tied e =
          let called : t.name ≡ name = (bytes_eq-Decides t.name name).0 e in
          let own = tied (subst IsKept (sym called) kept) in
          let id : t.id ≡ at = names_apart large ok few t.id at name (subst (IsNameOf large t.id) called own.name) of in
          both (t.client == manager) (t.id == window) (ap (λ (k : ℕ). k == manager) own.by) (eq-eqb t.id window (id ∙ is))

  -- the next name of a window
  next_is : (w : Window) (step : Step) → StandsIn large w → Stands step → IsNameOf large w.serial (next_name step.table w)
  next_is w step at is = record {
    lives = ap is_some at.found;
    generation = next_generation w.generation;
    is = ap (λ (path : List ℕ). name_by path (next_generation w.generation)) path;
  }
    where
      path : path_of step.table w.host ++ w.number ∷ [] ≡ path_of large w.serial
      path =
          (λ i. all_same step.table large is.each is.lives 9 w.host i ++ w.number ∷ []) ∙ (λ i. path_of large (sym at.host i) ++ sym at.number i ∷ [])
          ∙ sym (path_on large ok w.serial at.there at.found)

  pub replaced_stands : (keep : Bool) (w : Window) (r : Rect) (step : Step) → StandsIn large w → Stands step → Stands (replaced keep w r step)
  unfolding replaced
  replaced_stands keep w r step at is =
      let name = next_name step.table w in
      let of : IsNameOf large w.serial name = next_is w step at is in
      let placed : Step = with_windows (in_place (renewed r w)) step in
      let before : Step = ordered (order.Replace w.serial w.host r name keep w.hidden) placed in
      let new : StandsIn large (renewed r w) = record { there = at.there; found = at.found; host = at.host; number = at.number } in
      let one : Stands placed = windows_stand (in_place (renewed r w)) step (each_in_place (StandsIn large) (renewed r w) step.table.windows new is.each) (in_place_lives (renewed r w) step.table.windows) is in
      let two : Stands before =
      ordered_stands (order.Replace w.serial w.host r name keep w.hidden) placed (gives_tied w.serial name of) (λ window. name_free (carried_out device step.orders).book w.serial name is.ties of window) one in
      noted_stands w.serial (if keep then note.Moved name r else note.Resized name r) before (cond_both keep (note.Moved name r) (note.Resized name r) (Tells (IsNameOf large) w.serial) (λ _. of) (λ _. of)) two
