use Rattle.std.proofs.Common.{None, ap}
use Rattle.std.specs.Prelude.{option_map}
use Rattle.model_forest.specs.World.{Image, World}
use Rattle.model_forest.proofs.Changes.{World-same}
use Rattle.model_kept.specs.Keeping.{with_kept}
use Rattle.model_kept.proofs.Worlds.{pictured}
use Rattle.r9_locate.specs.locate.Table.{shape}
use Rattle.r9_pixels.specs.Kept.{kept_at}
use Rattle.r9_forest.specs.Images.{numbers, world}
use Rattle.r9_forest.specs.Numbered.{numbers_of}
use Rattle.r9_forest.proofs.images.Images.new.Goals as goal

pub returns-clause-world : goal.returns-clause-world
unfolding world
returns-clause-world c =
    World-same (with_kept (shape c.new.result) (kept_at c.new-2.result)) (λ _. None)
    (λ n. ap (option_map {T = Image} (pictured (shape c.new.result) (kept_at c.new-2.result) n)) (ap (λ (w : World). w n) c.new.ensures.world))

pub returns-clause-numbers : goal.returns-clause-numbers
unfolding numbers
returns-clause-numbers c = λ j. numbers_of (c.new.ensures.made j) (c.new-3.ensures.items j)
