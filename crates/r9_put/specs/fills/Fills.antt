-- What fills the points that a window uncovers.
use Rattle.std.specs.Prelude.{◌≡◌, ◌<◌, ◌≤◌, ◌+ℤ◌, pos, ℕ, if◌then◌else◌}
use Rattle.r9_geom.specs.declared.Point.{Point}
use Rattle.r9_geom.specs.declared.Rect.{Rect}
use Rattle.r9_plane.specs.Pixels.{along}
use Rattle.model_pixel.specs.Channels.{expand, pack}
use Rattle.model_forest.specs.World.{World, image_at}
use Rattle.model_forest.specs.View.{at}
use Rattle.model_forest.specs.Draw.{reaches}

-- the pixel of a fill image for these channels, or zero bits where it does not reach
abbrev pub fill_at : World → ℕ → ℕ → Point → ℕ
fill_at world chan fill p =
    if reaches (image_at world fill) p then pack chan (expand (image_at world fill).chan (at world fill p)) else 0

-- a rectangle holds the columns from the first up to the end, of the row of n points from a point on
pub record IsRun (at : Point) (n : ℕ) (given : Rect) (first end : ℕ) : Type 0 where
  pub some : first < end
  pub within : end ≤ n
  pub begins : given.min ≡ along at first
  pub ends : given.max.x ≡ at.x +ℤ pos end
  pub below : given.max.y ≡ at.y +ℤ pos 1
