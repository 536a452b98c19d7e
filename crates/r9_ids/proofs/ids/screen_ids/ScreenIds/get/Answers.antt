use Rattle.std.proofs.Common.{Some, None, sym, ap, ◌∙◌}
use Rattle.r9_ids.specs.ids.ScreenIds.{Ids}
use Rattle.r9_ids.proofs.ids.IdRows.{found-done, key-done}
use Rattle.r9_ids.proofs.ids.Entries.{screens}
use Rattle.r9_ids.proofs.ids.screen_ids.ScreenIds.get.Goals as goal

pub returns-in-Some-clause-found : goal.returns-in-Some-clause-found
returns-in-Some-clause-found c =
    found-done screens c.args.client c.args.id c.self.inside.rows.rows c.args.self.now.ids c.key_of_id.result (Some c.in-Some.row) (ap (λ (x : Ids). x.ids) c.self.view_is) c.key_of_id.ensures
    (sym c.in-Some.is ∙ c.get.ensures.found)

pub returns-in-Some-clause-same : goal.returns-in-Some-clause-same
returns-in-Some-clause-same c =
    key-done screens c.args.client c.args.id c.self.inside.rows.rows c.key_of_id.result c.in-Some.row c.key_of_id.ensures (sym c.get.ensures.found ∙ c.in-Some.is)

pub returns-in-None-clause-found : goal.returns-in-None-clause-found
returns-in-None-clause-found c =
    found-done screens c.args.client c.args.id c.self.inside.rows.rows c.args.self.now.ids c.key_of_id.result None (ap (λ (x : Ids). x.ids) c.self.view_is) c.key_of_id.ensures
    (sym c.in-None.is ∙ c.get.ensures.found)
