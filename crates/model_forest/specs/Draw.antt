-- Drawing (draw(2)): which points change, what they get, and that only bare points change.
use Rattle.std.specs.Prelude.{ℕ, Bool, true, ◌&&◌, ◌||◌, Option, Some, if◌then◌else◌}
use Rattle.std.specs.Option.{option_map_or}
use Rattle.r9_geom.specs.declared.Point.{Point}
use Rattle.r9_geom.specs.declared.Rect.{Rect}
use Rattle.r9_geom.specs.Geometry.{holds, carried}
use Rattle.model_pixel.specs.Channels.{expand, pack, mask}
use Rattle.model_pixel.specs.Composition.{comp}
use Rattle.model_forest.specs.World.{Image, World, image_at, with_image}
use Rattle.model_forest.specs.View.{is_bare, view, at}

-- What is drawn (draw(2)): on image dst, within a cut of it, into r, the source so that its point sp stands at r's min,
-- seen through the mask so that its point mp stands there; and the number of the operator.
pub record Drawing : Type 0 where
  pub dst : ℕ
  pub clip : Rect
  pub r : Rect
  pub src : ℕ
  pub sp : Point
  -- None is a full mask, of mask value 255 everywhere
  pub mask : Option ℕ
  pub mp : Point
  pub op : ℕ

-- the image gives a pixel there: inside its clip rectangle, and inside r unless it repeats
abbrev pub reaches : Image → Point → Bool
reaches image p = holds image.clipr p && (image.repl || holds image.r p)

-- the points that the drawing is about
abbrev pub in_area : World → Drawing → Point → Bool
in_area world d p =
    let dst = image_at world d.dst in
    holds dst.r p && holds dst.clipr p && holds d.clip p && holds d.r p
    && reaches (image_at world d.src) (carried p d.r.min d.sp)
    && option_map_or (λ i. reaches (image_at world i) (carried p d.r.min d.mp)) d.mask true

-- the mask value at a point of the area
abbrev pub mask_value : World → Drawing → Point → ℕ
mask_value world d p =
    option_map_or (λ i. mask (image_at world i).chan (at world i (carried p d.r.min d.mp))) d.mask 255

-- the pixel that a point of the area gets; everything is read in the state before
abbrev pub drawn : World → Drawing → Point → ℕ
drawn world d p =
    pack (image_at world d.dst).chan
    (comp d.op
    (expand (image_at world d.src).chan (at world d.src (carried p d.r.min d.sp)))
    (mask_value world d p)
    (expand (image_at world d.dst).chan (view world d.dst p)))

-- the canvas of an image is written at those of the points that are bare
abbrev pub with_canvas : World → ℕ → (Point → Bool) → (Point → ℕ) → World
with_canvas world i area new =
    let image = image_at world i in
    with_image world i
    (Some (record image {
      canvas = λ p. if area p && is_bare image.windows p then new p else image.canvas p;
    }))

-- one drawing
unfoldable pub after_draw : World → Drawing → World
after_draw world d = with_canvas world d.dst (in_area world d) (drawn world d)

-- pixels put into a rectangle of an image
unfoldable pub after_load : World → ℕ → Rect → (Point → ℕ) → World
after_load world i r raws = with_canvas world i (holds r) raws

-- one raw pixel at the bare points of a rectangle of an image
unfoldable pub after_fill : World → ℕ → Rect → ℕ → World
after_fill world i r raw = with_canvas world i (holds r) (λ _. raw)
