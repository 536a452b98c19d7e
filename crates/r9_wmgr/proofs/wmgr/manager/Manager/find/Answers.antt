use Rattle.std.proofs.Common.{rules, arith, Some, None}
use Rattle.std.proofs.lemmas.Grind.{common_steps}
use Rattle.model_rio.specs.rio.Table.{found}
use Rattle.model_rio.proofs.rio.Paths.{answered, unanswered}
use Rattle.r9_wmgr.proofs.wmgr.manager.Manager.find.Goals as goal

pub returns-then-is_empty-clause-none : goal.returns-then-is_empty-clause-none
unfolding found
returns-then-is_empty-clause-none c = unanswered c.args.self.now c.args.path.now None (search rules)

pub returns-in_err-at-clause-none : goal.returns-in_err-at-clause-none
unfolding found
returns-in_err-at-clause-none c = unanswered c.args.self.now c.args.path.now c.from_residual.result (grind (arith, common_steps))

pub returns-clause-window : goal.returns-clause-window
unfolding found
returns-clause-window c = answered c.args.self.now c.args.path.now (Some c.loop-number.at) (grind (arith, common_steps))
