-- Pixels gathered before a window goes or moves.
use Rattle.std.specs.Prelude.{ℕ, slice_index, if◌then◌else◌}
use Rattle.r9_geom.specs.declared.Point.{Point}
use Rattle.r9_geom.specs.Geometry.{holds}
use Rattle.r9_plane.specs.Pixels.{number_of}
use Rattle.r9_put.specs.declared.fills.gathered.Picture.{Picture}

-- the pixel at a point of the rectangle, 0 elsewhere
abbrev pub pictured : Picture → Point → ℕ
pictured picture p = if holds picture.r p then slice_index picture.raws.now (number_of picture.r p) else 0
