use Rattle.std.proofs.Common.{ap}
use Rattle.r9_ids.specs.ids.ImageIds.{Ids}
use Rattle.r9_ids.proofs.ids.IdRows.{back-done, rest-done}
use Rattle.r9_ids.proofs.ids.Entries.{images}
use Rattle.r9_ids.proofs.ids.image_ids.ImageIds.remove.Goals as goal

pub returns-clause-rest : goal.returns-clause-rest
returns-clause-rest c =
    rest-done images c.args.client c.args.id c.self.inside.rows.rows c.remove.new.self.rows c.args.self.now.ids c.key_of_id.result (ap (λ (x : Ids). x.ids) c.self.view_is) c.key_of_id.ensures c.remove.ensures.rows

pub returns-clause-back : goal.returns-clause-back
returns-clause-back c =
    back-done images c.args.client c.args.id c.self.inside.rows.rows c.remove.new.self.rows c.args.self.now.ids c.key_of_id.result (ap (λ (x : Ids). x.ids) c.self.view_is) c.key_of_id.ensures c.remove.ensures.rows
    c.remove.ensures.order
