use Rattle.std.proofs.Common.{◌∙◌, sym}
use Rattle.r9_restack.proofs.Stacked.{same_window}
use Rattle.r9_restack.proofs.stacks.goes_on.Goals as goal

pub returns-clause-same : goal.returns-clause-same
returns-clause-same c one = same_window c.args.old.now c.args.new.now (sym c.is_same.ensures ∙ one)
