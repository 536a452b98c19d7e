use Rattle.std.proofs.Common.{sym, ap, ◌∙◌}
use Rattle.r9_ids.specs.ids.ScreenIds.{Ids}
use Rattle.r9_ids.proofs.ids.IdRows.{is-own, is-other}
use Rattle.r9_ids.proofs.ids.Entries.{screens}
use Rattle.r9_ids.proofs.ids.Next.{next-none, next-past, next-some}
use Rattle.r9_ids.proofs.ids.screen_ids.ScreenIds.next_of.Goals as goal

pub returns-in_err-row : goal.returns-in_err-row
returns-in_err-row c =
    let none =
    next-none screens c.args.client c.args.from c.self.inside.rows.rows c.args.self.now.ids (ap (λ (x : Ids). x.ids) c.self.view_is) (sym c.first_from.ensures.found ∙ c.in_err-row.was) in
    record { rest = rw c.from_residual.ensures none }

pub returns-then-row-client : goal.returns-then-row-client
returns-then-row-client c = record {
  rest =
      next-some screens c.args.client c.args.from c.self.inside.rows.rows c.in_ok-row.row c.args.self.now.ids (ap (λ (x : Ids). x.ids) c.self.view_is) c.first_from.ensures.order
      (sym c.first_from.ensures.found ∙ c.in_ok-row.was) (is-own _ _ c.if-row-client.true);
}

pub returns-else-row-client : goal.returns-else-row-client
returns-else-row-client c = record {
  rest =
      next-past screens c.args.client c.args.from c.self.inside.rows.rows c.in_ok-row.row c.args.self.now.ids (ap (λ (x : Ids). x.ids) c.self.view_is) c.first_from.ensures.order
      (sym c.first_from.ensures.found ∙ c.in_ok-row.was) (is-other _ _ c.if-row-client.false);
}
