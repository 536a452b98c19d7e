use Rattle.r9_forest.specs.Keeping.{tiles_of}
use Rattle.r9_forest.proofs.images.Images.store.Goals as goal

pub returns : goal.returns
unfolding tiles_of
returns c = c.store.ensures
