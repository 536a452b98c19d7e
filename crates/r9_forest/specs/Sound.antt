-- What lists, kept pixels and numbers are together.
use Rattle.std.specs.Prelude.{◌≡◌, ℕ, List}
use Rattle.model_forest.specs.World.{IsForest}
use Rattle.model_kept.specs.Keeping.{with_kept}
use Rattle.r9_locate.specs.declared.locate.lists.Lists.{Lists}
use Rattle.r9_locate.specs.locate.Forms.{forms_of}
use Rattle.r9_locate.specs.locate.Table.{made, shape}
use Rattle.r9_pixels.specs.declared.keeping.KeptPixels.{KeptPixels}
use Rattle.r9_pixels.specs.Kept.{form_at, has_place, kept_at}
use Rattle.r9_pixels.specs.Places.{HasCells}
use Rattle.r9_forest.specs.Numbered.{IsNumbered}

-- a world of images, each of which has what it needs for its pixels, and windows places just in their cells that have a
-- hidden point
pub record IsSound (lists : Lists) (pixels : KeptPixels) (spare : List ℕ) : Type 0 where
  pub forest : IsForest (with_kept (shape lists) (kept_at pixels))
  pub forms : form_at pixels ≡ forms_of (shape lists)
  pub cells : HasCells (shape lists) (has_place pixels)
  pub numbers : IsNumbered (shape lists) (made lists) spare
