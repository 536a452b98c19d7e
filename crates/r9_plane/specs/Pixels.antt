-- What a plane shows: its rectangle, its channels, and a map from points to raw pixels.
use Rattle.std.specs.Prelude.{ℕ, pos, ◌+ℤ◌, ◌+◌, ◌*◌, if◌then◌else◌, List}
use Rattle.r9_geom.specs.declared.Point.{Point}
use Rattle.r9_geom.specs.declared.Rect.{Rect}
use Rattle.r9_geom.specs.Geometry.{distance, holds, width}
use Rattle.model_pixel.specs.Channels.{depth}
use Rattle.model_pixel.specs.Rows.{raw_at}
use Rattle.r9_plane.specs.declared.plane.Plane.{Plane}

abbrev pub rect_of : Plane → Rect
rect_of plane = plane.r

-- the channel descriptor, as a word
abbrev pub chan_of : Plane → ℕ
chan_of plane = plane.chan

-- the point so many to the right
abbrev pub along : Point → ℕ → Point
along p n = record { x = p.x +ℤ pos n; y = p.y }

-- the number of a point's pixel, row by row
abbrev pub number_of : Rect → Point → ℕ
number_of r p = distance r.min.y p.y * width r + distance r.min.x p.x

-- the raw pixel at a point of a rectangle whose packed pixels are given, 0 outside it
unfoldable pub pixel_of : Rect → ℕ → List ℕ → Point → ℕ
pixel_of r chan bytes p = if holds r p then raw_at (depth chan) bytes (number_of r p) else 0

-- the raw pixel that a plane has at a point, 0 outside its rectangle
unfoldable pub pixel_at : Plane → Point → ℕ
pixel_at plane = pixel_of plane.r plane.chan plane.bytes.items
