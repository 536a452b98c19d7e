-- The marks of images that stand nowhere, and what an image is at a moment.
use Rattle.std.specs.Prelude.{◌≡◌, ◌<◌, ℕ, Bool}
use Rattle.r9_geom.specs.declared.Rect.{Rect}
use Rattle.r9_geom.specs.Geometry.{height, point_at, width}
use Rattle.model_forest.specs.View.{view}
use Rattle.model_forest.specs.World.{World, image_at}
use Rattle.r9_pixels.specs.Kept as kept
use Rattle.r9_locate.specs.watched.Moments.{Moment}
use Rattle.r9_forest.specs.declared.images.Images.{Images}

-- whether a cell of 32 by 32 points, counted from an image's min, is marked, and how many are
abbrev pub marked : Images → ℕ → (column row : ℕ) → Bool
marked images = kept.marked images.pixels

abbrev pub mark_count : Images → ℕ → ℕ
mark_count images = kept.mark_count images.pixels

-- what an image shows in a column and row of it, both counted from its min
abbrev pub shown_in : World → ℕ → (column row : ℕ) → ℕ
shown_in world i column row = view world i (point_at (image_at world i).r column row)

-- the moment at which an image shows these pixels, and these cells are marked, so many, when so many pixels have been written
pub record IsMoment (moment : Moment) (r : Rect) (shown : (column row : ℕ) → ℕ) (cells : (column row : ℕ) → Bool) (number sum : ℕ) : Type 0 where
  pub pixels : (column row : ℕ) → column < width r → row < height r → moment.pixels column row ≡ shown column row
  pub marked : moment.marked ≡ cells
  pub count : moment.count ≡ number
  pub writes : moment.writes ≡ sum
