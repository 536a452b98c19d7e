-- Where a window of text and its characters stand, in pixels.
use Rattle.std.specs.Prelude.{ℕ, pos, ◌+◌, ◌*◌}
use Rattle.r9_geom.specs.declared.Point.{Point}
use Rattle.r9_geom.specs.declared.Rect.{Rect}

-- the rectangle of a window: its characters, and a border of four points around them
abbrev pub window_rect : (columns rows width height : ℕ) → Rect
window_rect columns rows width height = record {
  min = record { x = pos 0; y = pos 0 };
  max = record { x = pos (columns * width + 8); y = pos (rows * height + 8) };
}

-- the min of the character at a row and a column
abbrev pub place_of : (width height row column : ℕ) → Point
place_of width height row column = record { x = pos (4 + column * width); y = pos (4 + row * height) }
