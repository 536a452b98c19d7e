use Rattle.r9_forest.specs.Images.{world}
use Rattle.r9_layers.proofs.Drawings.{solid_below, solid_is}
use Rattle.r9_layers.proofs.drawing.solid_pixel.Goals as goal

pub returns-clause-value : goal.returns-clause-value
returns-clause-value c =
    solid_is (world c.args.images.now) c.args.task.now c.info-dst.result.chan c.info-src.result.chan c.chan_of_mask-mask.result c.in_ok-s.s c.in_ok-m.m c.solid.result
    (λ i. (c.info-dst.ensures i).chan) (λ i. (c.info-src.ensures i).chan) c.chan_of_mask-mask.ensures
    c.in_ok-s.ensures c.in_ok-m.ensures c.solid.ensures.value

pub returns-clause-range : goal.returns-clause-range
returns-clause-range c =
    solid_below (world c.args.images.now) c.keeps.ensures c.args.task.now c.requires.dst c.info-dst.result.chan c.info-src.result.chan c.chan_of_mask-mask.result c.in_ok-s.s c.in_ok-m.m c.solid.result
    (λ i. (c.info-dst.ensures i).chan) c.solid.ensures.value
