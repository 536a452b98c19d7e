-- An image as a file: five fields, 11 wide and a blank each, and the rows of its pixels (image(6)).
use Rattle.std.specs.Prelude.{ℕ, ◌*◌, List, ◌++◌, take, drop}
use Rattle.r9_geom.specs.declared.Rect.{Rect}
use Rattle.r9_geom.specs.Geometry.{height}
use Rattle.model_text.specs.text.Field.{field, number_field}
use Rattle.model_pixel.specs.Channels.{depth, name}
use Rattle.model_pixel.specs.Rows.{row_bytes}

-- a rectangle as four fields: the left and the upper edge, and the right and the lower one
abbrev pub rect_fields : Rect → List ℕ
rect_fields r = number_field r.min.x ++ number_field r.min.y ++ number_field r.max.x ++ number_field r.max.y

-- what a file begins with: the channels and the rectangle
abbrev pub file_header : ℕ → Rect → List ℕ
file_header chan r = field (name chan) ++ rect_fields r

-- the header and the rows
abbrev pub image_file : ℕ → Rect → List ℕ → List ℕ
image_file chan r rows = file_header chan r ++ rows

-- how many bytes the rows of an image have
abbrev pub rows_len : ℕ → Rect → ℕ
rows_len chan r = height r * row_bytes r (depth chan)

-- the bytes of a file from an offset on, at most so many
abbrev pub file_part : List ℕ → ℕ → ℕ → List ℕ
file_part file offset count = take count (drop offset file)
