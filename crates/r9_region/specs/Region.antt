-- The set of points that some rectangles cover.
use Rattle.std.specs.Prelude.{◌≡◌, ◌≤◌, ℕ, Bool, false, List, All}
use Rattle.std.specs.List.{count_by, list_any}
use Rattle.r9_geom.specs.declared.Point.{Point}
use Rattle.r9_geom.specs.declared.Rect.{Rect}
use Rattle.r9_geom.specs.Geometry.{holds, is_empty}

-- whether one of the rectangles holds the point
abbrev pub covers : List Rect → Point → Bool
covers parts p = list_any (λ part. holds part p) parts

-- how many of the rectangles hold the point
abbrev pub how_many_hold : List Rect → Point → ℕ
how_many_hold parts p = count_by (λ part. holds part p) parts

-- no point is in two of the rectangles, and none of them is empty
pub record AreDisjoint (parts : List Rect) : Type 0 where
  pub apart : (p : Point) → how_many_hold parts p ≤ 1
  pub solid : All (λ part. is_empty part ≡ false) parts
