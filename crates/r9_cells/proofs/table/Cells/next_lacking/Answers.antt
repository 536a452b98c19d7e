use Rattle.std.proofs.Common.{◌≡◌, ◌∙◌, ◌+◌, ◌<◌, ◌≤◌, Bool, true, false, get_or, ap, arith, refl, sym, ⊎_elim}
use Rattle.std.specs.Prelude.{◌&&◌, is_none}
use Rattle.std.specs.List.{list_any}
use Rattle.std.proofs.lemmas.Bool.{cases_lt}
use Rattle.std.proofs.lemmas.List.{get_or_default}
use Rattle.model_forest.specs.declared.Window.{Window}
use Rattle.r9_cells.specs.Rows.{row_at}
use Rattle.r9_cells.specs.Cells.{all_rows}
use Rattle.r9_cells.specs.Fitting.{meets}
use Rattle.r9_cells.proofs.Listed.{no_window}
use Rattle.r9_cells.proofs.table.Cells.next_lacking.Goals as goal

full : (b : Bool) → (b && false) ≡ false
full true = refl
full false = refl

pub loop-at-init : goal.loop-at-init
loop-at-init c = record {
  least = c.next_near-at.ensures.least;
  off = λ areas span k d past before below.
      ap (λ b. b && list_any is_none (row_at (all_rows c.args.self.now) (get_or c.args.windows.now k d).image)) (c.next_near-at.ensures.off areas span k d past before below);
}

pub lacks-requires : goal.lacks-requires
lacks-requires c = record { image = c.requires c.loop-at.at no_window c.loop-at-test.true }

pub loop-at-preserved : goal.loop-at-preserved
loop-at-preserved c =
    let ws = c.args.windows.now in
    let rows = all_rows c.args.self.now in
    let at = c.loop-at.at in
    let near = c.next_near-at-in-loop-at.ensures in
    record {
      least = omega (arith, c.loop-at.invariant.least, near.least);
      off = λ areas span k d past before below.
          ⊎_elim
          (λ (early : k < at). c.loop-at.invariant.off areas span k d past early below)
          (λ (late : at ≤ k).
          ⊎_elim
          (λ (here : k < at + 1).
          let is : k ≡ at = omega (arith, late, here) in
          let w_is : get_or ws k d ≡ get_or ws at no_window = get_or_default ws k d no_window below ∙ ap (λ n. get_or ws n no_window) is in
          ap (λ (w : Window). meets areas w.place && list_any is_none (row_at rows w.image)) w_is
          ∙ ap (λ b. meets areas (get_or ws at no_window).place && b) (sym c.lacks.ensures ∙ c.if-lacks.false)
          ∙ full (meets areas (get_or ws at no_window).place))
          (λ (after : at + 1 ≤ k). ap (λ b. b && list_any is_none (row_at rows (get_or ws k d).image)) (near.off areas span k d after before below))
          (cases_lt k (at + 1)))
          (cases_lt k at);
    }

pub returns-then-lacks-clause-off : goal.returns-then-lacks-clause-off
returns-then-lacks-clause-off c = c.loop-at.invariant.off

pub returns-clause-off : goal.returns-clause-off
returns-clause-off c = c.loop-at.invariant.off
