-- Some rows of a rectangle.
use Rattle.std.specs.Prelude.{◌+ℤ◌, ℕ, pos}
use Rattle.r9_geom.specs.declared.Rect.{Rect}

-- from one row on, up to another
abbrev pub rows_of : Rect → ℕ → ℕ → Rect
rows_of r first end = record {
  min = record { x = r.min.x; y = r.min.y +ℤ pos first };
  max = record { x = r.max.x; y = r.min.y +ℤ pos end };
}
