use Rattle.std.proofs.Common.{◌≡◌, ap, ◌∙◌}
use Rattle.r9_ids.specs.declared.sorted.key.Key.{Key}
use Rattle.r9_ids.specs.sorted.Order.{key}
use Rattle.r9_ids.specs.sorted.Rows.{without_key}
use Rattle.r9_ids.specs.ids.Rows.{public_key, screen_key}
use Rattle.r9_ids.specs.ids.ScreenIds.{Ids}
use Rattle.r9_ids.proofs.ids.IdRows.{back-done, rest-done}
use Rattle.r9_ids.proofs.ids.Entries.{screens}
use Rattle.r9_ids.proofs.ids.Publics.{public-without}
use Rattle.r9_ids.proofs.ids.screen_ids.ScreenIds.remove.Goals as goal

pub invariant_of-self : goal.invariant_of-self
invariant_of-self c =
    let rows = c.self.inside.rows.rows in
    let publics = c.self.inside.publics.rows in
    let left : c.remove.new.self.rows ≡ without_key screen_key (key c.args.client c.args.id 0) rows =
    c.remove.ensures.rows ∙ ap (λ (k : Key). without_key screen_key k rows) c.key_of_id.ensures in
    let others : c.remove-2.new.self.rows ≡ without_key public_key (key c.args.id c.args.client 0) publics =
    c.remove-2.ensures.rows ∙ ap (λ (k : Key). without_key public_key k publics) c.key_of_public.ensures in
    rw left (rw others (public-without c.args.client c.args.id rows publics c.self.invariant))

pub returns-clause-rest : goal.returns-clause-rest
returns-clause-rest c =
    rest-done screens c.args.client c.args.id c.self.inside.rows.rows c.remove.new.self.rows c.args.self.now.ids c.key_of_id.result (ap (λ (x : Ids). x.ids) c.self.view_is) c.key_of_id.ensures c.remove.ensures.rows

pub returns-clause-back : goal.returns-clause-back
returns-clause-back c =
    back-done screens c.args.client c.args.id c.self.inside.rows.rows c.remove.new.self.rows c.args.self.now.ids c.key_of_id.result (ap (λ (x : Ids). x.ids) c.self.view_is) c.key_of_id.ensures c.remove.ensures.rows
    c.self.invariant.order
