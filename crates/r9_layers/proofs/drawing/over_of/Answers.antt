use Rattle.r9_forest.specs.Images.{world}
use Rattle.r9_layers.proofs.Composed.{over_since}
use Rattle.r9_layers.proofs.drawing.over_of.Goals as goal

pub returns : goal.returns
returns c =
    over_since (world c.args.images.now) c.args.task.now c.info-source.result c.info-dst.result.chan c.chan_of_mask-mask.result c.in_ok-m.m c.of.result c.over.result
    c.info-source.ensures c.if-source.false (λ i. (c.info-dst.ensures i).chan) c.chan_of_mask-mask.ensures c.in_ok-m.ensures c.of.ensures c.over.ensures
