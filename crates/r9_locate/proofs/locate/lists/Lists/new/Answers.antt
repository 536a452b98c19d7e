use Rattle.std.proofs.Common.{None, ap}
use Rattle.std.specs.Prelude.{option_map}
use Rattle.model_forest.proofs.Changes.{World-same}
use Rattle.r9_locate.specs.locate.Lists.{frame_image, shape_of}
use Rattle.r9_locate.specs.locate.Table.{made, shape}
use Rattle.r9_locate.proofs.locate.lists.Lists.new.Goals as goal

pub returns-clause-world : goal.returns-clause-world
unfolding shape
returns-clause-world c = World-same (shape_of c.new.result) (λ _. None) (λ n. ap (option_map frame_image) (c.new.ensures.values n))

pub returns-clause-made : goal.returns-clause-made
unfolding made
returns-clause-made c = c.new.ensures.count
