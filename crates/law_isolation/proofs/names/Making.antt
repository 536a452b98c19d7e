-- A new window has a name that no other one has.
use Rattle.std.proofs.Common.{◌≡◌, ◌<◌, ◌≤◌, ◌^◌, ◌∙◌, ℕ, Bool, true, false, cond, List, [], ◌∷◌, ◌++◌, length, Option, Some, None, refl, sym, ap, eq-eqb, ne_eqb, arith}
use Rattle.std.specs.Prelude.{◌==◌, is_some}
use Rattle.std.specs.Map.{keys_of}
use Rattle.std.proofs.lemmas.Bool.{cond_both}
use Rattle.std.proofs.lemmas.List.Elements.{All-weaker}
use Rattle.r9_event.specs.declared.event.rio.Note.{Note}
use Rattle.r9_event.specs.declared.event.rio.Note.TheVariants as note
use Rattle.r9_event.specs.declared.event.rio.Order.{Order}
use Rattle.r9_event.specs.declared.event.rio.Order.TheVariants as order
use Rattle.model_text.specs.map.Ascending.{Ascend}
use Rattle.model_rio.specs.window.Pane.{Pane}
use Rattle.model_draw.specs.draw.World.{World}
use Rattle.model_rio.specs.rio.Table.{Window, Table, current_of, is_host, name_by, path_of, window_of}
use Rattle.model_rio.specs.rio.Step.{Step, begun, is_same, noted, ordered, told_current, with_current, with_rio}
use Rattle.model_rio.specs.rio.Rio.{entered, made}
use Rattle.model_rio.specs.rio.Sound.{IsSound, IsSoundWindow, window_in}
use Rattle.law_shown.proofs.fitting.Lists.{Each, apart_of, each_both, each_of, each_own}
use Rattle.law_others.proofs.tied.Orders.{some_of}
use Rattle.law_isolation.specs.names.Named.{IsKept, IsNameOf, IsWindowTie, Named}
use Rattle.law_isolation.proofs.names.Placing.{StandsIn, host_same, path_on, stands_found, window_same}
use Rattle.law_isolation.proofs.names.Standing.{Stands, Tied, current_stands, gives_tied, name_free, noted_stands, ordered_stands}

-- ---- what only changes which window is current

-- the windows and the count of serials are as they were
record SameWindows (before after : Step) : Type 0 where
  windows : after.table.windows ≡ before.table.windows
  serials : after.table.serials ≡ before.table.serials

told_same : (o : Option ℕ) (is : Bool) (before step : Step) → SameWindows before step → SameWindows before (told_current o is step)
told_same None is before step same = same
told_same (Some serial) is before step same = record { windows = same.windows; serials = same.serials }

current_same : (host : ℕ) (new : Option ℕ) (step : Step) → SameWindows step (with_current host new step)
unfolding with_current
current_same host new step =
    let old = current_of step.table host in
    let next : Step = with_rio host (λ rio. record rio { current = new }) step in
    cond_both (is_same old new) step (told_current new true (told_current old false next)) (SameWindows step) (λ _. record { windows = refl; serials = refl })
    (λ _. told_same new true step (told_current old false next) (told_same old false step next (record { windows = refl; serials = refl })))

-- ---- a new window

module _ (table : Table) (ok : IsSound table) (w : Window) (fresh : table.serials < w.serial) (small : w.serial < 2 ^ 32) (housed : is_host table w.host ≡ true)
    (device : World) (panes : List (ℕ × Pane)) (ascend : Ascend (keys_of panes)) (named : Named device table panes) where
  abbrev name : List ℕ
  name = name_by (path_of table w.host ++ w.number ∷ []) w.generation

  abbrev told : Note
  told = note.Made w.number w.serial name w.r (length (path_of table w.host ++ w.number ∷ []))

  abbrev made_by : Order
  made_by = order.Make w.serial w.host w.r name w.hidden (length (path_of table w.host ++ w.number ∷ []))

  abbrev there : Step
  there = noted w.serial told (ordered made_by (entered w (begun table)))

  made_same : SameWindows there (made w (begun table))
  unfolding made
  made_same =
      cond_both w.hidden (noted w.serial (note.Hidden true) there) (with_current w.host (Some w.serial) there) (SameWindows there) (λ _. record { windows = refl; serials = refl }) (λ _. current_same w.host (Some w.serial) there)

  abbrev pub large : Table
  large = (made w (begun table)).table

  -- each window, old or new, stands in the new table
  found_large : (n : ℕ) (o : Option Window) → window_in (w ∷ table.windows) n ≡ o → window_of large n ≡ o
  found_large n o e =
      let same : SameWindows there (made w (begun table)) = made_same in
      ap (λ (ws : List Window). window_in ws n) same.windows ∙ e

  found_new : window_of large w.serial ≡ Some w
  found_new = found_large w.serial (Some w) (ap (λ (b : Bool). cond b (Some w) (window_in table.windows w.serial)) (eq-eqb w.serial w.serial refl))

  stands_new : StandsIn large w
  stands_new = record { there = w; found = found_new; host = refl; number = refl }

  stands_old : Each (StandsIn large) table.windows
  stands_old =
      each_both (IsSoundWindow table) (λ v. window_in table.windows v.serial ≡ Some v) (StandsIn large) one table.windows (each_of (IsSoundWindow table) table.windows ok.windows)
      (each_own table.windows (apart_of table.windows ok.serials))
    where
      one : (v : Window) → IsSoundWindow table v → window_in table.windows v.serial ≡ Some v → StandsIn large v
      one v is found =
          let below : v.serial ≤ table.serials = is.given in
          let other : (w.serial == v.serial) ≡ false = ne_eqb w.serial v.serial (λ same. omega (arith, same, below, fresh)) in
          record { there = v; found = found_large v.serial (Some v) (ap (λ (b : Bool). cond b (Some w) (window_in table.windows v.serial)) other ∙ found); host = refl; number = refl }

  module _ (whole : IsSound large) where
    -- names of windows that were there are theirs still
    old_name : (n : ℕ) (called : List ℕ) → IsNameOf table n called → IsNameOf large n called
    old_name n called of =
        let v = some_of (window_of table n) of.lives in
        let at = stands_found large table.windows stands_old n v.0 v.1 in
        record { lives = ap is_some at.1; generation = of.generation; is = of.is ∙ ap (λ (path : List ℕ). name_by path of.generation) (window_same table large stands_old ok whole n of.lives) }

    -- and the new one's is its own
    new_name : IsNameOf large w.serial name
    new_name = record {
      lives = ap is_some found_new;
      generation = w.generation;
      is = ap (λ (path : List ℕ). name_by path w.generation) ((λ i. host_same table large stands_old ok whole w.host housed i ++ w.number ∷ []) ∙ sym (path_on large whole w.serial w found_new));
    }

    pub few : large.serials < 2 ^ 32
    few = let same : SameWindows there (made w (begun table)) = made_same in let is = same.serials in omega (arith, is, small)

    abbrev Holds : Step → Type 0
    Holds step = Stands large whole few device panes ascend step

    entered_holds : Holds (entered w (begun table))
    entered_holds = record {
      serials = let same : SameWindows there (made w (begun table)) = made_same in sym same.serials;
      each = (stands_new, stands_old);
      lives = λ n lives. let same : SameWindows there (made w (begun table)) = made_same in sym (ap (λ (ws : List Window). is_some (window_in ws n)) same.windows) ∙ lives;
      ties = All-weaker (λ t. IsKept t.name → IsWindowTie table t) (Tied large whole few device panes ascend) (λ t was kept. let is = was kept in record { by = is.by; name = old_name t.id t.name is.name }) device.book.ties named.ties;
      free = λ window. tt;
      files = λ n p found. old_name n p.known.name (named.panes n p found);
    }

    there_holds : Holds there
    there_holds =
        noted_stands large whole few device panes ascend w.serial told (ordered made_by (entered w (begun table))) new_name
        (ordered_stands large whole few device panes ascend made_by (entered w (begun table)) (gives_tied large whole few device panes ascend w.serial name new_name)
        (λ window. name_free large whole few device panes ascend device.book w.serial name entered_holds.ties new_name window) entered_holds)

    pub made_holds : Holds (made w (begun table))
    unfolding made
    made_holds =
        cond_both w.hidden (noted w.serial (note.Hidden true) there) (with_current w.host (Some w.serial) there) Holds
        (λ _. noted_stands large whole few device panes ascend w.serial (note.Hidden true) there tt there_holds) (λ _. current_stands large whole few device panes ascend w.host (Some w.serial) there there_holds)
