-- The text of a frame.
use Rattle.std.specs.Prelude.{◌≡◌, ◌*◌, ◌-◌, ◌++◌, ℕ, Bool, IsTrue, List, [], ◌∷◌, filter, length, min, nat_lt, MatchBool, if◌then◌else◌}
use Rattle.std.specs.Fmt.{decimal}
use Rattle.std.specs.List.{flat_map}
use Rattle.r9_geom.specs.declared.Point.{Point}
use Rattle.r9_geom.specs.declared.Rect.{Rect}
use Rattle.r9_geom.specs.Geometry.{height, holds}
use Rattle.r9_marks.specs.marks.Cells.{cells_in, cells_over}
use Rattle.model_pixel.specs.Channels.{depth}
use Rattle.model_pixel.specs.Rows.{row_bytes, row_pixel}
use Rattle.model_history.specs.records.Line.{line}
use Rattle.model_client.specs.mirror.Picture.{Picture, area}
use Rattle.model_mirror.specs.Sent.{sent_of}

-- a letter and numbers, each behind a blank, as a line
abbrev pub numbers_line : (letter : ℕ) → List ℕ → List ℕ
numbers_line letter numbers = line (letter ∷ flat_map (λ n. 32 ∷ decimal n) numbers)

-- a cell of a picture: its min, and its sides, which are cut to the picture
pub record Place : Type 0 where
  pub x : ℕ
  pub y : ℕ
  pub width : ℕ
  pub height : ℕ

abbrev pub place_of : Picture → ℕ × ℕ → Place
place_of picture (column, row) = record {
  x = 32 * column;
  y = 32 * row;
  width = min 32 (picture.width - 32 * column);
  height = min 32 (picture.height - 32 * row);
}

abbrev pub rect_of : Place → Rect
rect_of place = area place.x place.y place.width place.height

-- these rows have the pixels of a picture in a rectangle (image(6))
pub record AreRows (chan : ℕ) (picture : Picture) (r : Rect) (rows : List ℕ) : Type 0 where
  pub long : length rows ≡ row_bytes r (depth chan) * height r
  pub pixels : (p : Point) → IsTrue (holds r p) → row_pixel r (depth chan) rows p ≡ picture.pixel p

-- the text of cells: of each the line `C X Y W H`, and its rows
abbrev pub AreCells : (chan : ℕ) → Picture → List (ℕ × ℕ) → (text : List ℕ) → Type 0
AreCells chan picture [] text = text ≡ []
AreCells chan picture (cell ∷ cells) text =
    let place = place_of picture cell in
    (rows rest : List ℕ) × AreRows chan picture (rect_of place) rows × AreCells chan picture cells rest
    × (text ≡ numbers_line 67 (place.x ∷ place.y ∷ place.width ∷ place.height ∷ []) ++ rows ++ rest)

-- the line `Z W H` of a picture
abbrev pub size_line : Picture → List ℕ
size_line picture = numbers_line 90 (picture.width ∷ picture.height ∷ [])

-- A frame of a picture: the line `F K N`, where N cells are sent; the line `Z W H` where the size is told; and the cells that are sent, in
-- ascending row and column.
pub record IsFrame (chan number : ℕ) (sized : Bool) (picture : Picture) (sent : (column row : ℕ) → Bool) (text : List ℕ) : Type 0 where
  pub cells : List ℕ
  pub are_cells : AreCells chan picture (filter (λ cell. sent cell.0 cell.1) (cells_in (cells_over picture.width) (cells_over picture.height))) cells
  pub is_text : text ≡ numbers_line 70 (number ∷ sent_of picture sent ∷ []) ++ (if sized then size_line picture else []) ++ cells

-- what is put out after an entry: a frame, or nothing where no cell is sent
abbrev pub IsEntry : (chan number : ℕ) → (sized : Bool) → Picture → (sent : (column row : ℕ) → Bool) → (text : List ℕ) → Type 0
IsEntry chan number sized picture sent text =
    MatchBool (nat_lt 0 (sent_of picture sent)) (IsFrame chan number sized picture sent text) (text ≡ [])
