-- The other changes of a world: images that come and go, windows that move, and what they keep.
use Rattle.std.specs.Prelude.{ℕ, ◌+◌, ◌^◌, ◌==◌, ℤ, pos, neg_ℤ, ◌-ℤ◌, Bool, false, List, [], ◌∷◌, Some, None, map, if◌then◌else◌}
use Rattle.std.specs.Option.{option_map_or}
use Rattle.std.specs.Int.{int_min, int_max}
use Rattle.r9_geom.specs.declared.Point.{Point}
use Rattle.r9_geom.specs.declared.Rect.{Rect}
use Rattle.r9_geom.specs.Geometry.{carried}
use Rattle.model_forest.specs.declared.Window.{Window}
use Rattle.model_forest.specs.World.{Image, World, image_at, with_image, parent_of}
use Rattle.model_forest.specs.View.{view}
use Rattle.model_forest.specs.Stack.{seen, with_windows, moved, without}

-- an image of one raw pixel that stands nowhere
abbrev pub new_image : Rect → ℕ → ℕ → Image
new_image r chan raw = record {
  r = r;
  clipr = r;
  repl = false;
  chan = chan;
  standing = None;
  depth = 0;
  canvas = seen r [] (λ _. raw);
  windows = [];
}

unfoldable pub after_image : World → ℕ → Rect → ℕ → ℕ → World
after_image world i r chan raw = with_image world i (Some (new_image r chan raw))

-- an image repeats or not, with another clip rectangle
unfoldable pub after_set : World → ℕ → Bool → Rect → World
after_set world i repl clipr =
    with_image world i (Some (record (image_at world i) { repl = repl; clipr = clipr }))

-- the windows of the image on which i stands become others; nothing where it stands nowhere
abbrev pub after_list : World → ℕ → (List Window → List Window) → World
after_list world i change =
    option_map_or (λ parent. with_windows world parent (change (image_at world parent).windows))
    (parent_of world i)
    world

-- an image with no windows goes, first from its parent's list
unfoldable pub after_release : World → ℕ → World
after_release world i = with_image (after_list world i (without i)) i None

-- a rectangle that stands to `to` as r stands to `from`
abbrev pub carried_rect : Rect → Point → Point → Rect
carried_rect r from to = record { min = carried r.min from to; max = carried r.max from to }

-- the nearest number of 32 bits
abbrev pub clamped : ℤ → ℤ
clamped x = int_max (neg_ℤ (pos (2 ^ 31))) (int_min x (pos (2 ^ 31) -ℤ pos 1))

abbrev pub clamped_rect : Rect → Rect
clamped_rect r = record {
  min = record { x = clamped r.min.x; y = clamped r.min.y };
  max = record { x = clamped r.max.x; y = clamped r.max.y };
}

-- an image whose rectangle gets another corner keeps its pixels, and its windows move along
abbrev pub shifted_image : Image → Point → Image
shifted_image image min = record image {
  r = carried_rect image.r image.r.min min;
  clipr = clamped_rect (carried_rect image.clipr image.r.min min);
  canvas = λ p. image.canvas (carried p min image.r.min);
  windows = map (λ w. record { image = w.image; place = carried_rect w.place image.r.min min }) image.windows;
}

-- a window gets a corner of its own coordinates and one of its parent's
unfoldable pub after_origin : World → ℕ → Point → Point → World
after_origin world i min corner =
    let image = image_at world i in
    with_image (after_list world i (moved i (carried_rect image.r image.r.min corner))) i
    (Some (shifted_image image min))

-- a window directly above that of image old
abbrev pub put_above : Window → ℕ → List Window → List Window
put_above w old [] = []
put_above w old (v ∷ ws) = if v.image == old then w ∷ v ∷ ws else v ∷ put_above w old ws

-- far outside of every image
abbrev pub outside : Point
outside = record { x = pos (2 ^ 20); y = pos (2 ^ 20) }

-- a window takes the place in the list of another, which moves far outside; its pixels are the other's
-- view where it keeps that, counted from both corners, and else one raw pixel
unfoldable pub after_replace : World → ℕ → ℕ → Rect → Point → ℕ → Bool → World
after_replace world i old r corner raw keep =
    let image = image_at world old in
    let pixel = λ (p : Point). if keep then view world old (carried p r.min image.r.min) else raw in
    let window : Image = record {
      r = r;
      clipr = r;
      repl = false;
      chan = image.chan;
      standing = image.standing;
      depth = image.depth;
      canvas = seen r [] pixel;
      windows = [];
    } in
    let first : Window = record { image = i; place = carried_rect r r.min corner } in
    let replaced = after_list (with_image world i (Some window)) old (put_above first old) in
    after_list replaced old (moved old (carried_rect image.r image.r.min outside))

-- The same where it comes on another image, topmost there, with that image's channels and one level above it, and with
-- a fill of its own.
unfoldable pub after_replace_on : World → (i old parent fill : ℕ) → Rect → Point → ℕ → Bool → World
after_replace_on world i old parent fill r corner raw keep =
    let image = image_at world old in
    let pixel = λ (p : Point). if keep then view world old (carried p r.min image.r.min) else raw in
    let window : Image = record {
      r = r;
      clipr = r;
      repl = false;
      chan = (image_at world parent).chan;
      standing = Some (record { parent = parent; fill = fill });
      depth = (image_at world parent).depth + 1;
      canvas = seen r [] pixel;
      windows = [];
    } in
    let first : Window = record { image = i; place = carried_rect r r.min corner } in
    let placed = with_windows (with_image world i (Some window)) parent (first ∷ (image_at world parent).windows) in
    after_list placed old (moved old (carried_rect image.r image.r.min outside))
