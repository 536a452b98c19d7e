-- From one rectangle to another.
use Rattle.std.specs.Prelude.{◌-ℤ◌}
use Rattle.r9_geom.specs.declared.Rect.{Rect}
use Rattle.r9_geom.specs.declared.Point.{Point}

-- how far the min of a rectangle is from that of another
abbrev pub way : Rect → Rect → Point
way from to = record { x = to.min.x -ℤ from.min.x; y = to.min.y -ℤ from.min.y }
