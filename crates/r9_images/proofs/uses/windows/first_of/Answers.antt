use Rattle.std.proofs.Common.{sym, ap, ◌∙◌}
use Rattle.r9_ids.specs.declared.sorted.key.Key.{Key}
use Rattle.r9_ids.specs.sorted.Rows.{first_from}
use Rattle.r9_images.specs.uses.Windows.{window_key}
use Rattle.r9_images.proofs.uses.Making.{equal-is, first-found, first-none, first-past, not-other}
use Rattle.r9_images.proofs.uses.windows.first_of.Goals as goal

pub returns-in_err-row-clause-found : goal.returns-in_err-row-clause-found
returns-in_err-row-clause-found c =
    c.from_residual.ensures
    ∙ first-none c.args.image c.args.rows.now.rows
    (ap (λ (k : Key). first_from window_key k c.args.rows.now.rows) (sym c.key_of_window.ensures) ∙ sym c.first_from.ensures.found ∙ c.in_err-row.was)

pub returns-then-row-image-clause-found : goal.returns-then-row-image-clause-found
returns-then-row-image-clause-found c =
    first-found c.args.image c.args.rows.now.rows c.in_ok-row.row c.first_from.ensures.order
    (ap (λ (k : Key). first_from window_key k c.args.rows.now.rows) (sym c.key_of_window.ensures) ∙ sym c.first_from.ensures.found ∙ c.in_ok-row.was)
    (equal-is _ _ c.if-row-image.true)

pub returns-else-row-image-clause-found : goal.returns-else-row-image-clause-found
returns-else-row-image-clause-found c =
    first-past c.args.image c.args.rows.now.rows c.in_ok-row.row c.first_from.ensures.order
    (ap (λ (k : Key). first_from window_key k c.args.rows.now.rows) (sym c.key_of_window.ensures) ∙ sym c.first_from.ensures.found ∙ c.in_ok-row.was)
    (not-other _ _ c.if-row-image.false)
