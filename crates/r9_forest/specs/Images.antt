-- Lists and kept pixels as a world, and the numbers given out.
use Rattle.std.specs.Prelude.{◌≡◌, ℕ, Option}
use Rattle.model_forest.specs.Numbers.{Numbers}
use Rattle.model_forest.specs.World.{World}
use Rattle.model_kept.specs.Keeping.{with_kept}
use Rattle.r9_locate.specs.locate.Table.{made, shape}
use Rattle.r9_pixels.specs.Kept.{kept_at}
use Rattle.r9_pixels.specs.Kept as kept
use Rattle.r9_locate.specs.watched.Moments.{Moment}
use Rattle.r9_forest.specs.Numbered.{numbers_of}
use Rattle.r9_forest.specs.declared.images.Images.{Images}

-- the image at each number
unfoldable pub world : Images → World
world images = with_kept (shape images.lists) (kept_at images.pixels)

-- the numbers that were given out and that came back
unfoldable pub numbers : Images → Numbers
numbers images = numbers_of (made images.lists) images.spare.items

-- what each image with a plane was at the moment that proofs look back to, and how many pixels have been written
abbrev pub moment : Images → ℕ → Option Moment
moment images = kept.moment images.pixels

abbrev pub writes : Images → ℕ
writes images = kept.writes images.pixels

-- both show the same
pub record IsUnchanged (old new : Images) : Type 0 where
  pub world : world new ≡ world old
  pub numbers : numbers new ≡ numbers old
