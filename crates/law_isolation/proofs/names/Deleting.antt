-- Windows that go take the ties of their names and their files with them.
use Rattle.std.proofs.Common.{◌≡◌, ◌∙◌, ℕ, zero, suc, Bool, true, false, List, [], ◌∷◌, ◌++◌, fold, Option, Some, None, sym, ap, subst}
use Rattle.std.specs.Prelude.{◌==◌, ◌&&◌, All, is_some, not}
use Rattle.std.specs.Map.{keys_of}
use Rattle.std.proofs.lemmas.Bool.{cond_both}
use Rattle.std.proofs.lemmas.List.Sums.{fold-append}
use Rattle.r9_event.specs.declared.event.rio.Note.TheVariants as note
use Rattle.r9_event.specs.declared.event.rio.Order.{Order}
use Rattle.r9_event.specs.declared.event.rio.Order.TheVariants as order
use Rattle.model_text.specs.map.Ascending.{Ascend}
use Rattle.model_rio.specs.window.Pane.{Pane}
use Rattle.model_draw_parts.specs.declared.images.Tie.{Tie}
use Rattle.model_draw_parts.specs.images.Release.{is_tied_by}
use Rattle.model_draw.specs.draw.World.{World}
use Rattle.model_draw.specs.draw.Orders as draw
use Rattle.model_draw.specs.draw.Orders.{carried_out, fits, manager}
use Rattle.model_rio.specs.rio.Table.{Window, Rio, Table, Nobody, current_of, hold_of, made_in}
use Rattle.model_rio.specs.rio.Step.{Step, is_held, is_same, not_current, retired, told_current, with_current, with_hold, with_rio, without}
use Rattle.model_rio.specs.rio.Moving.{deleted, dropped}
use Rattle.model_rio.specs.rio.Sound.{window_in}
use Rattle.law_shown.proofs.shown.Tests.{turned}
use Rattle.law_shown.specs.fitting.Fitting.{AllFit}
use Rattle.law_shown.proofs.fitting.Lists.{Each, each_filter}
use Rattle.model_world.specs.Desktop.{panes_told}
use Rattle.law_strangers.specs.followed.Devices.{AllFree}
use Rattle.law_strangers.proofs.followed.Noted.{all_order}
use Rattle.law_isolation.specs.names.Named.{IsKept, IsNameOf, IsWindowTie}
use Rattle.law_isolation.proofs.names.Placing.{StandsIn}
use Rattle.law_others.proofs.tied.Orders.{dropped_untied, ordered_keeps}
use Rattle.law_isolation.proofs.names.Filed.{AllFiles, deleted_keeps, told_keeps}
use Rattle.law_isolation.proofs.names.Standing.{carried_more, free_more, without_lives}

fit_parts : (device : World) (orders : List Order) (o : Order) → AllFit device (orders ++ o ∷ []) → AllFit device orders × (fits (carried_out device orders) o ≡ true)
fit_parts device [] o all = (tt, all.0)
fit_parts device (p ∷ orders) o all =
    let later = fit_parts (draw.ordered device p) orders o all.1 in
    ((all.0, later.0), later.1)

-- `large`: a table in which each window stands that has not gone yet.
module _ (large : Table) (device : World) (panes : List (ℕ × Pane)) (ascend : Ascend (keys_of panes)) where
  -- it is a name of a window that lives still
  abbrev pub Lasts : List Window → ℕ → List ℕ → Type 0
  Lasts ws n name = IsNameOf large n name × (is_some (window_in ws n) ≡ true)

  abbrev pub TiedStill : List Window → Tie → Type 0
  TiedStill ws t = IsKept t.name → IsWindowTie large t × (is_some (window_in ws t.id) ≡ true)

  pub record Left (step : Step) : Type 0 where
    pub serials : step.table.serials ≡ large.serials
    pub each : Each (StandsIn large) step.table.windows
    pub ties : AllFit device step.orders → All (TiedStill step.table.windows) (carried_out device step.orders).book.ties
    pub free : (window : ℕ) → AllFree window device step.orders
    pub files : AllFiles (Lasts step.table.windows) (fold panes_told panes step.notes)

  -- ---- the current window

  told_left : (o : Option ℕ) (is : Bool) (step : Step) → Left step → Left (told_current o is step)
  told_left None current step is = is
  told_left (Some serial) current step is = record {
    serials = is.serials;
    each = is.each;
    ties = is.ties;
    free = is.free;
    files = subst (AllFiles (Lasts step.table.windows)) (sym (fold-append panes_told panes step.notes ((serial, note.Current current) ∷ [])))
        (told_keeps (Lasts step.table.windows) (fold panes_told panes step.notes) serial (note.Current current) (all_order step.notes panes ascend) tt is.files);
  }

  rio_left : (host : ℕ) (change : Rio → Rio) (step : Step) → Left step → Left (with_rio host change step)
  rio_left host change step is = record { serials = is.serials; each = is.each; ties = is.ties; free = is.free; files = is.files }

  current_left : (host : ℕ) (new : Option ℕ) (step : Step) → Left step → Left (with_current host new step)
  unfolding with_current
  current_left host new step is =
      let old = current_of step.table host in
      let next : Step = with_rio host (λ rio. record rio { current = new }) step in
      cond_both (is_same old new) step (told_current new true (told_current old false next)) Left (λ _. is)
      (λ _. told_left new true (told_current old false next) (told_left old false next (rio_left host (λ rio. record rio { current = new }) step is)))

  retired_left : (host serial : ℕ) (step : Step) → Left step → Left (retired host serial step)
  unfolding retired
  retired_left host serial step is =
      let idle = not_current host serial step in
      let still : Left idle = cond_both (is_same (current_of step.table host) (Some serial)) (with_current host None step) step Left (λ _. current_left host None step is) (λ _. is) in
      cond_both (is_held serial (hold_of idle.table host)) (with_hold host Nobody idle) idle Left (λ _. rio_left host (λ rio. record rio { hold = Nobody }) idle still) (λ _. still)

  -- ---- a window that goes

  not_this : (b c : Bool) → b ≡ true → (b && c) ≡ false → c ≡ false
  not_this true c is e = e
  not_this false c is e = absurd cc

  others_last : (ws : List Window) (gone n : ℕ) → (n == gone) ≡ false → is_some (window_in ws n) ≡ true → is_some (window_in (without gone ws) n) ≡ true
  others_last ws gone n other lives = ap is_some (without_lives gone ws n (turned gone n ∙ other)) ∙ lives

  tie_lasts : (ws : List Window) (gone : ℕ) (t : Tie) → TiedStill ws t → is_tied_by manager gone t ≡ false → TiedStill (without gone ws) t
  tie_lasts ws gone t was other kept =
      let is = was kept in
      let by = is.0.by in
      (is.0, others_last ws gone t.id (not_this (t.client == manager) (t.id == gone) (ap (λ (k : ℕ). k == manager) by) other) is.1)

  dropped_left : (w : Window) (step : Step) → Left step → Left (dropped w step)
  unfolding dropped
  dropped_left w step is = record {
    serials = was.serials;
    each = each_filter (StandsIn large) (StandsIn large) (λ v. not (v.serial == w.serial)) (λ v _ at. at) before.table.windows was.each;
    ties = ties;
    free = λ window. free_more window before.orders device (order.Drop w.serial) (was.free window) tt;
    files = subst (AllFiles (Lasts (without w.serial before.table.windows))) (sym (fold-append panes_told panes before.notes ((w.serial, note.Deleted) ∷ [])))
        (deleted_keeps (Lasts before.table.windows) (Lasts (without w.serial before.table.windows)) (fold panes_told panes before.notes) w.serial (all_order before.notes panes ascend)
        (λ n name other lasts. (lasts.0, others_last before.table.windows w.serial n other lasts.1)) was.files);
  }
    where
      before : Step
      before = retired w.host w.serial step

      was : Left before
      was = retired_left w.host w.serial step is

      ties : AllFit device (before.orders ++ order.Drop w.serial ∷ []) → All (TiedStill (without w.serial before.table.windows)) (carried_out device (before.orders ++ order.Drop w.serial ∷ [])).book.ties
      ties all =
          let parts = fit_parts device before.orders (order.Drop w.serial) all in
          let old : World = carried_out device before.orders in
          let kept = ordered_keeps (TiedStill before.table.windows) old (order.Drop w.serial) tt (was.ties parts.0) in
          let gone = dropped_untied old w.serial parts.1 in
          subst (λ (v : World). All (TiedStill (without w.serial before.table.windows)) v.book.ties) (sym (carried_more device before.orders (order.Drop w.serial)))
          (λ k d within. tie_lasts before.table.windows w.serial _ (kept k d within) (gone k d within))

  all_left : (delete : Window → Step → Step) → ((w : Window) (step : Step) → Left step → Left (delete w step)) → (ws : List Window) (step : Step) → Left step → Left (fold (λ step v. delete v step) step ws)
  all_left delete deletes [] step is = is
  all_left delete deletes (w ∷ ws) step is = all_left delete deletes ws (delete w step) (deletes w step is)

  pub deleted_left : (levels : ℕ) (w : Window) (step : Step) → Left step → Left (deleted levels w step)
  unfolding deleted
  deleted_left zero w step is = is
  deleted_left (suc levels) w step is =
      dropped_left w (fold (λ step v. deleted levels v step) step (made_in step.table w.serial)) (all_left (deleted levels) (deleted_left levels) (made_in step.table w.serial) step is)
