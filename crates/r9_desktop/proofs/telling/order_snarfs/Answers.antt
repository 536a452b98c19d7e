use Rattle.std.proofs.Common.{◌∙◌, arith}
use Rattle.model_world.specs.Desktop.{snarfs_ordered}
use Rattle.r9_desktop.proofs.Loops.{fold_next}
use Rattle.r9_desktop.proofs.telling.order_snarfs.Goals as goal

pub loop-order-preserved : goal.loop-order-preserved
loop-order-preserved c =
    fold_next snarfs_ordered c.loop-order.snarfs.entries _ c.order-item.result c.args.orders.now c.loop-order.order-index _ (omega arith) c.order-item.is c.in_ok-order_snarf.ensures
    ∙ c.loop-order.invariant
