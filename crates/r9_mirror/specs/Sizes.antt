-- Sizes of pictures, and cells by their size alone.
use Rattle.std.specs.Prelude.{ℕ, ◌+◌, ◌*◌, ◌<◌, ◌≤◌, ◌&&◌, nat_le, IsTrue, Option, Some, None, if◌then◌else◌}
use Rattle.r9_geom.specs.declared.Point.{Point}
use Rattle.r9_geom.specs.Geometry.{height, holds, IsOrdered, IsRectNear}
use Rattle.model_client.specs.mirror.Picture.{Picture, area, blank, is_cell}
use Rattle.model_client.specs.mirror.Lines as model
use Rattle.r9_mirror.specs.declared.lines.Size.{Size}
use Rattle.r9_mirror.specs.declared.lines.Cell.{Cell}

-- the size of a picture
abbrev pub size_of : Picture → Size
size_of picture = record { width = picture.width; height = picture.height }

-- a picture of that size, of zero bits
abbrev pub blank_of : Size → Picture
blank_of size = blank size.width size.height

-- the picture of two sides
abbrev pub sized : ℕ × ℕ → Option Picture
sized sides =
    if nat_le 1 sides.0 && nat_le sides.0 2048 && nat_le 1 sides.1 && nat_le sides.1 2048 then Some (blank sides.0 sides.1) else None

-- the cell of a picture with this min and these sides
abbrev pub cut : Picture → (at sides : ℕ × ℕ) → Option model.Cell
cut picture at sides =
    if is_cell picture at.0 at.1 sides.0 sides.1
    then Some (record { order = 2048 * at.1 + at.0; r = area at.0 at.1 sides.0 sides.1 })
    else None

-- sizes that a picture may have
pub record IsLawful (size : Size) : Type 0 where
  pub wide : 1 ≤ size.width
  pub width : size.width ≤ 2048
  pub tall : 1 ≤ size.height
  pub height : size.height ≤ 2048

-- the same cell in the definition's terms
abbrev pub cell_of : Cell → model.Cell
cell_of cell = record { order = cell.order; r = cell.r }

-- a cell lies in a picture of that size
pub record IsWithin (size : Size) (cell : Cell) : Type 0 where
  pub order : cell.order < 2048 * 2048
  pub near : IsRectNear cell.r
  pub ordered : IsOrdered cell.r
  pub few : height cell.r ≤ 32
  pub inside : (p : Point) → IsTrue (holds cell.r p) → IsTrue (holds (area 0 0 size.width size.height) p)
