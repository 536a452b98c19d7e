-- Rows of a rectangle of an image, and where their points are kept.
use Rattle.std.specs.Prelude.{◌≡◌, ◌+◌, ◌-◌, ◌<◌, ◌≤◌, ℕ, true}
use Rattle.r9_geom.specs.declared.Point.{Point}
use Rattle.r9_geom.specs.declared.Rect.{Rect}
use Rattle.r9_geom.specs.Geometry.{carried, height, holds, point_at, strip, width}
use Rattle.model_forest.specs.World.{World}
use Rattle.model_kept.specs.Keeping.{keeping, own}
use Rattle.r9_shown.specs.Shown as shown
use Rattle.r9_shown.specs.Shown.{IsKeptBelow}
use Rattle.r9_shown.specs.declared.blocks.Block.{Block}
use Rattle.r9_shown.specs.declared.viewing.Band.{Band}

-- the points of an image from one on, so many columns and rows, are kept in a block
abbrev pub IsKeptFrom : World → ℕ → Point → Block → Type 0
IsKeptFrom world i at block =
    (p : Point) → holds (shown.block at block.extent.columns block.extent.rows) p ≡ true → keeping world i p ≡ own block.image (carried p at block.at)

-- rows of a rectangle in each column of which the points are kept as in the first one, and where those of its first and last columns are
pub record IsBand (world : World) (i : ℕ) (r : Rect) (row : ℕ) (band : Band) : Type 0 where
  pub some : 0 < band.rows
  pub most : row + band.rows ≤ height r
  pub steady : (z : Point) (k : ℕ) → holds (strip (point_at r 0 row) (width r)) z ≡ true → k < band.rows → IsKeptBelow world i z k
  pub columns : 0 < band.first.extent.columns
  pub fits : band.first.extent.columns ≤ width r
  pub rows : band.first.extent.rows ≡ band.rows
  pub first : IsKeptFrom world i (point_at r 0 row) band.first
  pub last_columns : 0 < band.last.extent.columns
  pub last_fits : band.last.extent.columns ≤ width r
  pub last_rows : band.last.extent.rows ≡ band.rows
  pub last : IsKeptFrom world i (point_at r (width r - band.last.extent.columns) row) band.last
