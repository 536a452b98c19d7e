-- Areas of an image of which no two have a point in common.
use Rattle.std.specs.Prelude.{◌≡◌, ◌≤◌, true, List, All}
use Rattle.r9_geom.specs.declared.Point.{Point}
use Rattle.r9_geom.specs.declared.Rect.{Rect}
use Rattle.r9_geom.specs.Geometry.{holds, IsOrdered, IsRectNear}
use Rattle.r9_region.specs.Region.{covers, how_many_hold}

-- they lie in its rectangle
pub record AreApartIn (r : Rect) (areas : List Rect) : Type 0 where
  pub near : All IsRectNear areas
  pub ordered : All IsOrdered areas
  pub inside : (z : Point) → covers areas z ≡ true → holds r z ≡ true
  pub apart : (z : Point) → how_many_hold areas z ≤ 1
