-- The rows of an image that a part of its file touches.
use Rattle.std.specs.Prelude.{ℕ, ◌+◌, ◌-◌, ◌/◌, ◌==◌, ◌||◌, ◌+ℤ◌, min, pos, if◌then◌else◌}
use Rattle.r9_geom.specs.declared.Rect.{Rect}
use Rattle.r9_geom.specs.Geometry.{height}
use Rattle.model_pixel.specs.Channels.{depth}
use Rattle.model_pixel.specs.Rows.{row_bytes}

-- how many bytes the header of a file has
abbrev pub header_len : ℕ
header_len = 60

-- how many bytes of the rows stand before a part of the file, and how many of the rows it asks for
abbrev pub before_part : (offset : ℕ) → ℕ
before_part offset = offset - header_len

abbrev pub part_len : (offset count : ℕ) → ℕ
part_len offset count = count - (header_len - offset)

-- the rows of a rectangle from one on and before another, counted from the upper one
abbrev pub rows_between : Rect → (first end : ℕ) → Rect
rows_between r first end = record {
  min = record { x = r.min.x; y = r.min.y +ℤ pos first };
  max = record { x = r.max.x; y = r.min.y +ℤ pos end };
}

-- the rows that hold some of `len` bytes, before which `before` stand, where a row has `line` bytes
abbrev pub rows_with : Rect → (line before len : ℕ) → Rect
rows_with r line before len =
    if (line == 0) || (len == 0) then rows_between r 0 0
    else rows_between r (min (before / line) (height r)) (min ((before + len - 1) / line + 1) (height r))

-- the rows of an image that hold some byte of a part of its file, as a rectangle
unfoldable pub touched : (chan : ℕ) → Rect → (offset count : ℕ) → Rect
touched chan r offset count = rows_with r (row_bytes r (depth chan)) (before_part offset) (part_len offset count)
