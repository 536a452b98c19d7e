-- Pixels that are put on an image where it keeps them.
use Rattle.std.specs.Prelude.{◌≡◌, ℕ, Bool, true}
use Rattle.r9_geom.specs.declared.Point.{Point}
use Rattle.r9_geom.specs.Geometry.{holds}
use Rattle.model_forest.specs.World.{World, image_at, IsForest, IsLive}
use Rattle.model_kept.specs.Keeping.{keeping}
use Rattle.model_kept.specs.Restack.{IsPut}
use Rattle.r9_locate.specs.locate.Forms.{HasBits}
use Rattle.r9_pixels.specs.declared.keeping.KeptPixels.{KeptPixels}
use Rattle.r9_pixels.specs.Kept.{form_at, has_place, kept_at, moment}

-- a world of images with a place for each pixel that one shows, of as many bits as the image's channels
pub record IsStored (world : World) (pixels : KeptPixels) : Type 0 where
  pub forest : IsForest world
  pub has : (i : ℕ) (p : Point) → IsLive world i → holds (image_at world i).r p ≡ true → has_place pixels (keeping world i p) ≡ true
  pub bits : HasBits world (form_at pixels)

-- pixels are put on the bare points of an area of an image, and nothing else changes
pub record IsWritten (world : World) (i : ℕ) (area : Point → Bool) (raws : Point → ℕ) (old new : KeptPixels) : Type 0 where
  pub put : IsPut world i area raws (kept_at old) (kept_at new)
  pub has : has_place new ≡ has_place old
  pub forms : form_at new ≡ form_at old
  pub moment : moment new ≡ moment old
