use Rattle.r9_forest.specs.Images.{world}
use Rattle.r9_layers.proofs.Drawings.{single_is}
use Rattle.r9_layers.proofs.composing.single_mask.Goals as goal

pub returns-in-Some : goal.returns-in-Some
returns-in-Some c = single_is (world c.args.images.now) c.args.task.now c.in-Some.i c.single.result c.in-Some.is c.single.ensures
