use Rattle.std.proofs.Common.{◌∙◌}
use Rattle.model_world.specs.Fids.{keeps}
use Rattle.r9_session.proofs.Keeping.{any_beside}
use Rattle.r9_session.proofs.session.Session.is_kept_beside.Goals as goal

pub returns : goal.returns
returns c = c.has_other_keeper.ensures ∙ any_beside (keeps c.args.connection) c.args.self.now.fids c.args.fid c.ascends.ensures
