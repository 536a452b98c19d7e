-- What the options of a command make of a rectangle (rio(4)).
use Rattle.std.specs.Prelude.{pos, ◌+ℤ◌, ◌-ℤ◌, ℤ, neg_ℤ, int_le, Bool, ◌&&◌, List, Option, Some, None, if◌then◌else◌}
use Rattle.std.specs.List.{fold}
use Rattle.r9_geom.specs.declared.Rect.{Rect}
use Rattle.model_files.specs.wctl.Command.{Amount, Is, Plus, Minus, Choice, R, Minx, Miny, Maxx, Maxy, Dx, Dy}

-- the number that an amount gives, from the quantity so far
abbrev pub given : ℤ → Amount → ℤ
given so_far (Is n) = n
given so_far (Plus n) = so_far +ℤ n
given so_far (Minus n) = so_far -ℤ n

abbrev pub box : ℤ → ℤ → ℤ → ℤ → Rect
box x0 y0 x1 y1 = record { min = record { x = x0; y = y0 }; max = record { x = x1; y = y1 } }

-- another left edge; in a move the right one follows
abbrev pub with_minx : Bool → Rect → ℤ → Rect
with_minx moves r x = box x r.min.y (if moves then r.max.x +ℤ (x -ℤ r.min.x) else r.max.x) r.max.y

abbrev pub with_miny : Bool → Rect → ℤ → Rect
with_miny moves r y = box r.min.x y r.max.x (if moves then r.max.y +ℤ (y -ℤ r.min.y) else r.max.y)

-- one option
abbrev pub after_choice : Bool → Rect → Choice → Rect
after_choice moves r (R other) = other
after_choice moves r (Minx a) = with_minx moves r (given r.min.x a)
after_choice moves r (Miny a) = with_miny moves r (given r.min.y a)
after_choice moves r (Maxx a) = box r.min.x r.min.y (given r.max.x a) r.max.y
after_choice moves r (Maxy a) = box r.min.x r.min.y r.max.x (given r.max.y a)
after_choice moves r (Dx a) = box r.min.x r.min.y (r.min.x +ℤ given (r.max.x -ℤ r.min.x) a) r.max.y
after_choice moves r (Dy a) = box r.min.x r.min.y r.max.x (r.min.y +ℤ given (r.max.y -ℤ r.min.y) a)

-- the greatest coordinate of a window, and its sides
abbrev pub farthest : ℤ
farthest = pos 1048576

abbrev pub is_side : ℤ → Bool
is_side n = int_le (pos 12) n && int_le n (pos 2048)

abbrev pub is_coordinate : ℤ → Bool
is_coordinate n = int_le (neg_ℤ farthest) n && int_le n farthest

abbrev pub is_near : Rect → Bool
is_near r = is_coordinate r.min.x && is_coordinate r.min.y && is_coordinate r.max.x && is_coordinate r.max.y

-- whether a window may have this rectangle
abbrev pub is_window : Rect → Bool
is_window r = is_side (r.max.x -ℤ r.min.x) && is_side (r.max.y -ℤ r.min.y) && is_near r

-- the rectangle that options make of a first one, from left to right, where a window may have it
unfoldable pub applied : Bool → List Choice → Rect → Option Rect
applied moves options start =
    let r = fold (after_choice moves) start options in
    if is_window r then Some r else None
