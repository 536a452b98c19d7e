use Rattle.std.proofs.Common.{arith}
use Rattle.r9_forest.specs.Images.{world}
use Rattle.r9_layers.proofs.Moved.{moved_since}
use Rattle.r9_layers.proofs.drawing.moved_bits.Goals as goal

pub returns : goal.returns
returns c =
    moved_since (world c.args.images.now) c.args.task.now c.info-info.result c.chan_of_mask-mask.result c.in_ok-m.m c.of.result c.moved_bits.result
    c.info-info.ensures (omega (arith, c.if-task.false)) c.if-info.false c.chan_of_mask-mask.ensures c.in_ok-m.ensures c.of.ensures c.moved_bits.ensures
