-- A forest as the world of images that it stands for, the numbers that it gave out, and its room for drawing.
use Rattle.std.specs.Prelude.{◌≡◌, ℕ, Bool, Option, vec_len}
use Rattle.model_forest.specs.Numbers.{Numbers}
use Rattle.model_forest.specs.World.{World}
use Rattle.r9_layers.specs.declared.forest.Forest.{Forest}
use Rattle.r9_forest.specs.Images as table
use Rattle.r9_forest.specs.Marks as marks
use Rattle.r9_locate.specs.watched.Moments.{Moment}

-- the image at each number
unfoldable pub world : Forest → World
world forest = table.world forest.images

-- the numbers of images
unfoldable pub numbers : Forest → Numbers
numbers forest = table.numbers forest.images

-- a drawing of at most so many points takes no memory
unfoldable pub room : Forest → ℕ
room forest = vec_len forest.pixels

-- what each image that stands nowhere was at the moment that proofs look back to, and how many pixels have been written
unfoldable pub moment : Forest → ℕ → Option Moment
moment forest = table.moment forest.images

unfoldable pub writes : Forest → ℕ
writes forest = table.writes forest.images

-- whether a cell of 32 by 32 points, counted from an image's min, is marked, and how many are
unfoldable pub marked : Forest → ℕ → (column row : ℕ) → Bool
marked forest = marks.marked forest.images

unfoldable pub mark_count : Forest → ℕ → ℕ
mark_count forest = marks.mark_count forest.images

-- two forests show the same
pub record IsUnchanged (old new : Forest) : Type 0 where
  pub world : world new ≡ world old
  pub numbers : numbers new ≡ numbers old
