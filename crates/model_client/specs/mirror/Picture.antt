-- The picture that a viewer keeps, and its cells.
use Rattle.std.specs.Prelude.{ℕ, pos, ◌+◌, ◌-◌, ◌%◌, ◌==◌, ◌&&◌, Bool, nat_lt, min, List, if◌then◌else◌}
use Rattle.r9_geom.specs.declared.Point.{Point}
use Rattle.r9_geom.specs.declared.Rect.{Rect}
use Rattle.r9_geom.specs.Geometry.{holds}
use Rattle.model_pixel.specs.Channels.{depth}
use Rattle.model_pixel.specs.Rows.{row_pixel}

-- a picture: its sides, and the raw pixel of each of its points, 0 beside it
pub record Picture : Type 0 where
  pub width : ℕ
  pub height : ℕ
  pub pixel : Point → ℕ

-- a picture of zero bits
abbrev pub blank : (width height : ℕ) → Picture
blank width height = record { width = width; height = height; pixel = λ p. 0 }

-- the rectangle of so many columns and rows from a point on
abbrev pub area : (x y width height : ℕ) → Rect
area x y width height = record { min = record { x = pos x; y = pos y }; max = record { x = pos (x + width); y = pos (y + height) } }

-- whether numbers are the min and the size of a cell of the picture, cut to it: cells are 32 by 32
abbrev pub is_cell : Picture → (x y width height : ℕ) → Bool
is_cell picture x y width height =
    (x % 32 == 0) && (y % 32 == 0) && nat_lt x picture.width && nat_lt y picture.height
    && (width == min 32 (picture.width - x)) && (height == min 32 (picture.height - y))

-- the picture with the rows of a rectangle put into it
abbrev pub with_rows : (chan : ℕ) → Rect → List ℕ → Picture → Picture
with_rows chan r rows picture =
    record picture { pixel = λ p. if holds r p then row_pixel r (depth chan) rows p else picture.pixel p }
