use Rattle.std.proofs.Common.{◌≡◌, true, false, sym, ap, ◌∙◌}
use Rattle.r9_ids.specs.declared.sorted.key.Key.{Key}
use Rattle.r9_ids.specs.sorted.Order.{is_key}
use Rattle.r9_ids.proofs.sorted.Ascending.{found-none, found-is, found-other}
use Rattle.r9_ids.proofs.sorted.sorted.Sorted.get.Goals as goal

pub returns-in_err-row-clause-found : goal.returns-in_err-row-clause-found
returns-in_err-row-clause-found g c = c.from_residual.ensures ∙ sym (found-none g.T.Keyed.key_of c.args.key c.args.self.now.rows (sym c.first_from.ensures.found ∙ c.in_err-row.was))

pub returns-then-is-clause-found : goal.returns-then-is-clause-found
returns-then-is-clause-found g c =
    let is : is_key (g.T.Keyed.key_of c.in_ok-row.row) c.args.key ≡ true =
    sym (ap (λ (k : Key). is_key k c.args.key) c.key.ensures) ∙ sym c.is.ensures ∙ c.if-is.true in
    sym (found-is g.T.Keyed.key_of c.args.key c.args.self.now.rows c.in_ok-row.row (sym c.first_from.ensures.found ∙ c.in_ok-row.was) is)

pub returns-else-is-clause-found : goal.returns-else-is-clause-found
returns-else-is-clause-found g c =
    let other : is_key (g.T.Keyed.key_of c.in_ok-row.row) c.args.key ≡ false =
    sym (ap (λ (k : Key). is_key k c.args.key) c.key.ensures) ∙ sym c.is.ensures ∙ c.if-is.false in
    sym (found-other g.T.Keyed.key_of c.args.key c.args.self.now.rows c.in_ok-row.row c.first_from.ensures.order (sym c.first_from.ensures.found ∙ c.in_ok-row.was) other)
