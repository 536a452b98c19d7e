use Rattle.std.proofs.Common.{◌∙◌, true, sym, arith}
use Rattle.model_rio.specs.rio.Rio.{moved_by}
use Rattle.r9_wmgr.proofs.wmgr.Levels.{each-refused, each-done}
use Rattle.r9_wmgr.proofs.wmgr.Results.{same_fault, if_refused}
use Rattle.r9_wmgr.proofs.wmgr.draft.Draft.move_each.Goals as goal

pub returns-in_err-move_by-clause-refused : goal.returns-in_err-move_by-clause-refused
returns-in_err-move_by-clause-refused c =
    same_fault c.from_residual.result c.in_err-move_by.field-0.0 _ c.from_residual.ensures.1
    (if_refused c.in_err-move_by.field-0.0 _ _
    (λ n e. sym c.loop-w.invariant ∙ each-refused (moved_by true c.args.options.now) c.loop-w.self n c.w-item.result c.args.windows.now c.loop-w.w-index _ (omega arith) c.w-item.is e)
    c.in_err-move_by.ensures.refused)

pub returns-clause-done : goal.returns-clause-done
returns-clause-done c = sym c.loop-w.invariant ∙ each-done (moved_by true c.args.options.now) c.loop-w.self c.args.windows.now c.loop-w.w-index c.loop-w-test.false
