-- Which pixels of a source are asked for, and what it tells of a rectangle.
use Rattle.std.specs.Prelude.{◌≡◌, ℕ, slice_index, length, true}
use Rattle.r9_geom.specs.declared.Point.{Point}
use Rattle.r9_geom.specs.declared.Rect.{Rect}
use Rattle.r9_geom.specs.Geometry.{holds}
use Rattle.r9_plane.specs.Blocks.{number_in, HasRows}
use Rattle.r9_restack.specs.declared.giving.Supply.{Supply}
use Rattle.r9_restack.specs.declared.giving.Supply.TheVariants.{Plain, Rows}
use Rattle.r9_restack.specs.declared.giving.Kind.{Kind}
use Rattle.r9_restack.specs.declared.giving.Kind.TheVariants.{Given, Fill}

abbrev pub pixels_of : (given fill : Point → ℕ) → Kind → Point → ℕ
pixels_of given fill Given p = given p
pixels_of given fill Fill p = fill p

-- what is told of the pixels of a rectangle is so
pub record IsSupply (supply : Supply) (pixels : Point → ℕ) (r : Rect) : Type 0 where
  pub plain : (raw : ℕ) → supply ≡ Plain raw → (p : Point) → holds r p ≡ true → pixels p ≡ raw
  pub enough : (raws : _) (first width : ℕ) → supply ≡ Rows raws first width → HasRows r first width (length raws.now)
  pub rows : (raws : _) (first width : ℕ) → supply ≡ Rows raws first width → (p : Point) → holds r p ≡ true → pixels p ≡ slice_index raws.now (number_in r first width p)
