-- The cursor: a triangle of 136 points, black at its edge and white inside.
use Rattle.std.specs.Prelude.{ℕ, ℤ, pos, ◌-ℤ◌, ◌&&◌, ◌||◌, Bool, int_le, Option, Some, None, if◌then◌else◌}
use Rattle.std.specs.Ordering.{int_eq}
use Rattle.r9_geom.specs.declared.Point.{Point}
use Rattle.model_pixel.specs.Channels.{pack, colour_of}

-- the colour words of the cursor
abbrev pub black : ℕ
black = 0x000000FF

abbrev pub white : ℕ
white = 0xFFFFFFFF

-- whether it has the point so many columns and rows from its own
abbrev pub has : ℤ → ℤ → Bool
has dx dy = int_le (pos 0) dx && int_le dx dy && int_le dy (pos 15)

-- whether that point is at its edge
abbrev pub is_edge : ℤ → ℤ → Bool
is_edge dx dy = int_eq dx (pos 0) || int_eq dx dy || int_eq dy (pos 15)

-- The raw pixel under some channels that it puts over the point so many columns and rows from its own, or None where
-- it has it not.
abbrev pub shape_at : ℕ → ℤ → ℤ → Option ℕ
shape_at chan dx dy = if has dx dy then Some (pack chan (colour_of (if is_edge dx dy then black else white))) else None

-- what a cursor at a point puts over another one
abbrev pub cursor_at : ℕ → Point → Point → Option ℕ
cursor_at chan at p = shape_at chan (p.x -ℤ at.x) (p.y -ℤ at.y)
