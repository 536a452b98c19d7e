-- The table of images as a world.
use Rattle.std.specs.Prelude.{ℕ}
use Rattle.model_forest.specs.World.{World}
use Rattle.r9_locate.specs.numbered.Numbered.{count_of, CanInsert}
use Rattle.r9_locate.specs.declared.locate.lists.Lists.{Lists}
use Rattle.r9_locate.specs.locate.Lists.{shape_of}

unfoldable pub shape : Lists → World
shape lists = shape_of lists.frames

-- how many numbers were given out
unfoldable pub made : Lists → ℕ
made lists = count_of lists.frames

-- an image may be put under a number that has none
unfoldable pub HasRoom : Lists → ℕ → Type 0
HasRoom lists i = CanInsert lists.frames i
