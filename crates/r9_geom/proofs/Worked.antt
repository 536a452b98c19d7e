-- Worked rows of the definitions, which the check computes.
use Rattle.std.specs.Prelude.{◌≡◌, ℤ, pos, negsuc, true, false, refl}
use Rattle.r9_geom.specs.declared.Point.{Point}
use Rattle.r9_geom.specs.declared.Rect.{Rect}
use Rattle.r9_geom.specs.Geometry.{area_of, at_min, carried, height, holds, is_empty, is_inside, meet, reduced, shifted, width}

abbrev point : ℤ → ℤ → Point
point x y = record { x = x; y = y }

abbrev rect : ℤ → ℤ → ℤ → ℤ → Rect
rect left top right bottom = record { min = point left top; max = point right bottom }

left_edge_belongs : holds (rect (pos 2) (pos 2) (pos 5) (pos 4)) (point (pos 2) (pos 3)) ≡ true
left_edge_belongs = refl

right_edge_does_not : holds (rect (pos 2) (pos 2) (pos 5) (pos 4)) (point (pos 5) (pos 3)) ≡ false
right_edge_does_not = refl

lower_edge_does_not : holds (rect (pos 2) (pos 2) (pos 5) (pos 4)) (point (pos 4) (pos 4)) ≡ false
lower_edge_does_not = refl

meeting : meet (rect (pos 2) (pos 2) (pos 5) (pos 4)) (rect (pos 0) (pos 3) (pos 4) (pos 9)) ≡ rect (pos 2) (pos 3) (pos 4) (pos 4)
meeting = refl

side_by_side : is_empty (meet (rect (pos 2) (pos 2) (pos 5) (pos 4)) (rect (pos 5) (pos 2) (pos 9) (pos 4))) ≡ true
side_by_side = refl

within : is_inside (rect (pos 3) (pos 3) (pos 5) (pos 4)) (rect (pos 2) (pos 2) (pos 5) (pos 4)) ≡ true
within = refl

one_column_out : is_inside (rect (pos 3) (pos 3) (pos 6) (pos 4)) (rect (pos 2) (pos 2) (pos 5) (pos 4)) ≡ false
one_column_out = refl

empty_is_within_all : is_inside (rect (pos 9) (pos 9) (pos 9) (pos 12)) (rect (pos 2) (pos 2) (pos 5) (pos 4)) ≡ true
empty_is_within_all = refl

moved_along : shifted (rect (pos 2) (pos 2) (pos 5) (pos 4)) (point (pos 1) (negsuc 2)) ≡ rect (pos 3) (negsuc 0) (pos 6) (pos 1)
moved_along = refl

at_another_min : at_min (rect (pos 2) (pos 2) (pos 5) (pos 4)) (point (negsuc 0) (pos 0)) ≡ rect (negsuc 0) (pos 0) (pos 2) (pos 2)
at_another_min = refl

columns : width (rect (negsuc 1) (pos 2) (pos 5) (pos 4)) ≡ 7
columns = refl

rows_turned_over : height (rect (pos 2) (pos 4) (pos 5) (pos 2)) ≡ 0
rows_turned_over = refl

area : area_of (rect (negsuc 1) (pos 2) (pos 5) (pos 4)) ≡ 14
area = refl

repeated_left_of_it : reduced (rect (pos 2) (pos 2) (pos 5) (pos 4)) (point (negsuc 1) (pos 7)) ≡ point (pos 4) (pos 3)
repeated_left_of_it = refl

carried_over : carried (point (pos 5) (pos 7)) (point (pos 2) (pos 2)) (point (negsuc 0) (pos 0)) ≡ point (pos 2) (pos 5)
carried_over = refl
