-- Changes of a list of windows, and what becomes of the points that they cover and uncover.
use Rattle.std.specs.Prelude.{ℕ, ◌+◌, ◌==◌, Bool, false, not, ◌&&◌, List, [], ◌∷◌, ◌++◌, Some, unwrap_or, filter, map, if◌then◌else◌}
use Rattle.std.specs.Option.{option_map_or}
use Rattle.std.specs.List.{list_any}
use Rattle.r9_geom.specs.declared.Point.{Point}
use Rattle.r9_geom.specs.declared.Rect.{Rect}
use Rattle.r9_geom.specs.Geometry.{holds}
use Rattle.model_pixel.specs.Channels.{expand, pack}
use Rattle.model_forest.specs.declared.Window.{Window}
use Rattle.model_forest.specs.World.{Image, World, image_at, with_image, fill_of, parent_of}
use Rattle.model_forest.specs.View.{top_window, is_bare, at}
use Rattle.model_forest.specs.Draw.{reaches}

-- a canvas, kept at the points of r that no window covers
abbrev pub seen : Rect → List Window → (Point → ℕ) → Point → ℕ
seen r windows canvas p = if holds r p && is_bare windows p then canvas p else 0

-- what a point gets when this window, which was topmost there, leaves it: the fill's pixel in the
-- old state, or zero bits where the fill does not reach
abbrev pub filled : World → ℕ → Window → Point → ℕ
filled world chan w p =
    let fill = image_at world (fill_of world w.image) in
    if reaches fill p then pack chan (expand fill.chan (at world (fill_of world w.image) p)) else 0

-- the canvas before, with each point that was covered filled
abbrev pub uncovered : World → ℕ → Point → ℕ
uncovered world i p =
    let image = image_at world i in
    option_map_or (λ w. filled world image.chan w p) (top_window image.windows p) (image.canvas p)

-- an image gets another list of windows
abbrev pub with_windows : World → ℕ → List Window → World
with_windows world i windows =
    let image = image_at world i in
    with_image world i
    (Some (record image { windows = windows; canvas = seen image.r windows (uncovered world i) }))

-- is one of these images
abbrev pub is_in : List ℕ → Window → Bool
is_in group w = list_any (λ i. i == w.image) group

-- a group to the top, in its own order
abbrev pub raised : List ℕ → List Window → List Window
raised group ws = filter (is_in group) ws ++ filter (λ w. not (is_in group w)) ws

-- a group to the bottom, in its own order
abbrev pub lowered : List ℕ → List Window → List Window
lowered group ws = filter (λ w. not (is_in group w)) ws ++ filter (is_in group) ws

-- one window at another place
abbrev pub moved_window : ℕ → Rect → Window → Window
moved_window i place w = if w.image == i then record { image = i; place = place } else w

abbrev pub moved : ℕ → Rect → List Window → List Window
moved i place ws = map (moved_window i place) ws

-- the list without one window
abbrev pub without : ℕ → List Window → List Window
without i ws = filter (λ w. not (w.image == i)) ws

-- the world after another list of the windows of the image on which a group stands
abbrev pub after_restack : (List Window → List Window) → World → List ℕ → World
after_restack order world [] = world
after_restack order world (i ∷ rest) =
    let parent = unwrap_or (parent_of world i) 0 in
    with_windows world parent (order (image_at world parent).windows)

-- the world after a group of windows of one image was raised, or lowered
unfoldable pub after_raise : World → List ℕ → World
after_raise world group = after_restack (raised group) world group

unfoldable pub after_lower : World → List ℕ → World
after_lower world group = after_restack (lowered group) world group

-- a window's image of one raw pixel, one level above the image that it stands on
abbrev pub new_window : World → ℕ → ℕ → Rect → ℕ → Image
new_window world parent fill r raw = record {
  r = r;
  clipr = r;
  repl = false;
  chan = (image_at world parent).chan;
  standing = Some (record { parent = parent; fill = fill });
  depth = (image_at world parent).depth + 1;
  canvas = seen r [] (λ _. raw);
  windows = [];
}

-- the world after a window came under number i, topmost, at the place r of its parent
unfoldable pub after_window : World → ℕ → ℕ → ℕ → Rect → ℕ → World
after_window world i parent fill r raw =
    with_windows (with_image world i (Some (new_window world parent fill r raw))) parent
    (record { image = i; place = r } ∷ (image_at world parent).windows)
