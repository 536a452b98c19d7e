use Rattle.r9_forest.specs.Images.{world}
use Rattle.r9_layers.proofs.Rows.{steady-ahead, steady-apart}
use Rattle.r9_layers.proofs.drawing.is_steady.Goals as goal

pub returns-then-is_apart : goal.returns-then-is_apart
returns-then-is_apart c told =
    steady-apart (world c.args.images.now) c.args.task.now (c.is_apart.ensures c.if-is_apart.true) (c.is_mask_apart.ensures c.if-not-is_mask_apart.false)

pub returns : goal.returns
returns c told =
    steady-ahead (world c.args.images.now) c.args.task.now (c.is_ahead.ensures told) (c.is_mask_apart.ensures c.if-not-is_mask_apart.false)
