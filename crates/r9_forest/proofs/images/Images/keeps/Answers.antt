use Rattle.r9_forest.specs.Images.{world}
use Rattle.r9_forest.proofs.images.Images.keeps.Goals as goal

pub returns : goal.returns
unfolding world
returns c = c.args.self.now.sound.forest
