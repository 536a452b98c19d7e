-- Cells of a display, and their text.
use Rattle.std.specs.Prelude.{◌≡◌, ◌<◌, ◌*◌, ◌-◌, ◌++◌, ℕ, List, [], ◌∷◌, map, min, IsTrue}
use Rattle.r9_geom.specs.declared.Point.{Point}
use Rattle.r9_geom.specs.declared.Rect.{Rect}
use Rattle.r9_geom.specs.Geometry.{height, holds, width, HasPoints, IsOrdered, IsRectNear}
use Rattle.model_client.specs.mirror.Picture.{Picture}
use Rattle.model_mirror.specs.Frame.{AreCells, AreRows, Place, numbers_line, place_of, rect_of}
use Rattle.r9_serve.specs.declared.sending.cells.Cell.{Cell}

-- cells as pairs of numbers
abbrev pub pairs_of : List Cell → List (ℕ × ℕ)
pairs_of cells = map (λ cell. (cell.column, cell.row)) cells

-- a cell has a pixel of a display
pub record IsCellOf (r : Rect) (cell : Cell) : Type 0 where
  pub column : 32 * cell.column < width r
  pub row : 32 * cell.row < height r

-- where a cell stands, which is cut to the display
abbrev pub place_in : Rect → Cell → Place
place_in r cell = record {
  x = 32 * cell.column;
  y = 32 * cell.row;
  width = min 32 (width r - 32 * cell.column);
  height = min 32 (height r - 32 * cell.row);
}

-- a rectangle has points, and they are points of a display
pub record IsPartOf (display r : Rect) : Type 0 where
  pub near : IsRectNear r
  pub ordered : IsOrdered r
  pub points : HasPoints r
  pub inside : (p : Point) → IsTrue (holds r p) → IsTrue (holds display p)

-- the line `C X Y W H` of a place
abbrev pub place_line : Place → List ℕ
place_line place = numbers_line 67 (place.x ∷ place.y ∷ place.width ∷ place.height ∷ [])

-- a text to which the rows of a part of a picture were added
pub record AreRowsAdded (chan : ℕ) (picture : Picture) (r : Rect) (old new : List ℕ) : Type 0 where
  pub rows : List ℕ
  pub are_rows : AreRows chan picture r rows
  pub text : new ≡ old ++ rows

-- a text to which the text of a cell, or of some, was added
pub record IsCellAdded (chan : ℕ) (picture : Picture) (cell : ℕ × ℕ) (old new : List ℕ) : Type 0 where
  pub rows : List ℕ
  pub are_rows : AreRows chan picture (rect_of (place_of picture cell)) rows
  pub text : new ≡ old ++ place_line (place_of picture cell) ++ rows

pub record AreAdded (chan : ℕ) (picture : Picture) (cells : List (ℕ × ℕ)) (old new : List ℕ) : Type 0 where
  pub added : List ℕ
  pub are_cells : AreCells chan picture cells added
  pub text : new ≡ old ++ added
