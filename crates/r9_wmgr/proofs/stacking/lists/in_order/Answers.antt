use Rattle.std.proofs.Common.{◌∙◌, arith}
use Rattle.model_rio.specs.rio.Table.{put}
use Rattle.r9_wmgr.proofs.stacking.Loops.{fold_next}
use Rattle.r9_wmgr.proofs.stacking.lists.in_order.Goals as goal

pub loop-w-preserved : goal.loop-w-preserved
loop-w-preserved c =
    fold_next put c.loop-w.ordered.items _ c.w-item.result c.args.windows.now c.loop-w.w-index _ (omega arith) c.w-item.is c.in_ok-put.ensures ∙ c.loop-w.invariant
