use Rattle.std.proofs.Common.{◌≡◌, ◌==◌, List, find, filter, length, sym, ap, subst, ◌∙◌, arith}
use Rattle.std.specs.Prelude.{not}
use Rattle.std.specs.List.{count_by}
use Rattle.model_draw_parts.specs.declared.images.OnScreen.{OnScreen}
use Rattle.r9_ids.specs.declared.sorted.key.Key.{Key}
use Rattle.r9_ids.specs.sorted.Rows.{without_key}
use Rattle.r9_ids.proofs.sorted.Ascending.{none-kept}
use Rattle.r9_images.specs.declared.uses.rows.WindowRow.{WindowRow}
use Rattle.r9_images.specs.uses.Windows.{AreMade, Standing, windows_of, window_key}
use Rattle.r9_images.proofs.uses.Making.{are-left, counted-left, fewer-left, found-first, key-is, none-stands, others-left}
use Rattle.r9_images.proofs.uses.windows.Windows.take.Goals as goal

pub returns-in_err-row-clause-found : goal.returns-in_err-row-clause-found
returns-in_err-row-clause-found c =
    c.from_residual.ensures
    ∙ sym (none-stands c.self.inside.rows.rows c.self.inside.made c.self.invariant c.args.image (sym c.first_of.ensures.found ∙ c.in_err-row.was))
    ∙ ap (λ (x : Standing). find (λ (w : OnScreen). w.image == c.args.image) x.windows) c.self.view_is

pub returns-in_err-row-clause-none : goal.returns-in_err-row-clause-none
returns-in_err-row-clause-none c = λ _.
    sym
    (none-kept (λ (w : OnScreen). w.image == c.args.image) c.args.self.now.windows
    (ap (λ (x : Standing). find (λ (w : OnScreen). w.image == c.args.image) x.windows) (sym c.self.view_is)
    ∙ none-stands c.self.inside.rows.rows c.self.inside.made c.self.invariant c.args.image (sym c.first_of.ensures.found ∙ c.in_err-row.was)))

pub invariant_of-self : goal.invariant_of-self
invariant_of-self c =
    let rows = c.self.inside.rows.rows in
    let made = c.self.inside.made in
    let first = sym c.first_of.ensures.found ∙ c.in_ok-row.was in
    let left : c.remove.new.self.rows ≡ without_key window_key (window_key c.in_ok-row.row) rows =
    c.remove.ensures.rows ∙ ap (λ (k : Key). without_key window_key k rows) (c.key_of_window.ensures ∙ key-is rows made c.self.invariant c.args.image c.in_ok-row.row first) in
    let P : List WindowRow → Type 0 = λ rs. AreMade rs made in
    subst P (sym left) (are-left rows made c.self.invariant c.args.image c.in_ok-row.row first)

pub returns-clause-found : goal.returns-clause-found
returns-clause-found c =
    sym (found-first c.self.inside.rows.rows c.self.inside.made c.self.invariant c.args.image c.in_ok-row.row (sym c.first_of.ensures.found ∙ c.in_ok-row.was))
    ∙ ap (λ (x : Standing). find (λ (w : OnScreen). w.image == c.args.image) x.windows) c.self.view_is

pub returns-clause-others : goal.returns-clause-others
returns-clause-others c =
    let rows = c.self.inside.rows.rows in
    let made = c.self.inside.made in
    let first = sym c.first_of.ensures.found ∙ c.in_ok-row.was in
    let left : c.remove.new.self.rows ≡ without_key window_key (window_key c.in_ok-row.row) rows =
    c.remove.ensures.rows ∙ ap (λ (k : Key). without_key window_key k rows) (c.key_of_window.ensures ∙ key-is rows made c.self.invariant c.args.image c.in_ok-row.row first) in
    let others : OnScreen → _ = λ w. not (w.image == c.args.image) in
    ap (λ (rs : List WindowRow). filter others (windows_of rs made)) left
    ∙ others-left rows made c.self.invariant c.args.image c.in_ok-row.row first ∙ ap (λ (x : Standing). filter others x.windows) c.self.view_is

pub returns-clause-counts : goal.returns-clause-counts
returns-clause-counts c = λ s.
    let rows = c.self.inside.rows.rows in
    let made = c.self.inside.made in
    let first = sym c.first_of.ensures.found ∙ c.in_ok-row.was in
    let left : c.remove.new.self.rows ≡ without_key window_key (window_key c.in_ok-row.row) rows =
    c.remove.ensures.rows ∙ ap (λ (k : Key). without_key window_key k rows) (c.key_of_window.ensures ∙ key-is rows made c.self.invariant c.args.image c.in_ok-row.row first) in
    let on : OnScreen → _ = λ w. w.screen == s in
    let before = ap (λ (x : Standing). count_by on x.windows) c.self.view_is in
    let after = ap (λ (rs : List WindowRow). count_by on (windows_of rs made)) left in
    let one = counted-left rows made c.self.invariant c.args.image c.in_ok-row.row first on in
    omega (arith, before, after, one)

pub returns-clause-less : goal.returns-clause-less
returns-clause-less c =
    let rows = c.self.inside.rows.rows in
    let made = c.self.inside.made in
    let first = sym c.first_of.ensures.found ∙ c.in_ok-row.was in
    let left : c.remove.new.self.rows ≡ without_key window_key (window_key c.in_ok-row.row) rows =
    c.remove.ensures.rows ∙ ap (λ (k : Key). without_key window_key k rows) (c.key_of_window.ensures ∙ key-is rows made c.self.invariant c.args.image c.in_ok-row.row first) in
    let before = ap (λ (x : Standing). length x.windows) c.self.view_is in
    let after = ap (λ (rs : List WindowRow). length (windows_of rs made)) left in
    let one = fewer-left rows made c.self.invariant c.args.image c.in_ok-row.row first in
    omega (arith, before, after, one)
