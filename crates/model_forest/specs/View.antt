-- What an image shows at a point: its own canvas, or the topmost window there, seen through in turn.
use Rattle.std.specs.Prelude.{ℕ, zero, suc, ◌==◌, ◌&&◌, Bool, List, Option, is_none, find, if◌then◌else◌}
use Rattle.std.specs.Option.{option_map_or}
use Rattle.std.specs.List.{list_any}
use Rattle.r9_geom.specs.declared.Point.{Point}
use Rattle.r9_geom.specs.Geometry.{holds, carried, reduced}
use Rattle.model_forest.specs.declared.Window.{Window}
use Rattle.model_forest.specs.World.{World, image_at, deepest}

-- the topmost window whose place holds the point
abbrev pub top_window : List Window → Point → Option Window
top_window windows p = find (λ w. holds w.place p) windows

-- no place covers the point
abbrev pub is_bare : List Window → Point → Bool
is_bare windows p = is_none (top_window windows p)

-- a window of the image covers the point
abbrev pub covers : ℕ → Point → List Window → Bool
covers i p windows = list_any (λ w. w.image == i && holds w.place p) windows

-- the point of the window's own rectangle that stands at p
abbrev pub inward : World → Window → Point → Point
inward world w p = carried p w.place.min (image_at world w.image).r.min

-- the view of an image, at most so many windows deep
abbrev pub view_within : ℕ → World → ℕ → Point → ℕ
view_within zero world i p = 0
view_within (suc depth) world i p =
    option_map_or (λ w. view_within depth world w.image (inward world w p))
    (top_window (image_at world i).windows p)
    ((image_at world i).canvas p)

-- the raw pixel that an image shows at a point of its rectangle
unfoldable pub view : World → ℕ → Point → ℕ
view world i p = view_within (suc deepest) world i p

-- what reading an image at any point gives: its view, repeated where it has repl
abbrev pub at : World → ℕ → Point → ℕ
at world i p =
    view world i (if (image_at world i).repl then reduced (image_at world i).r p else p)
