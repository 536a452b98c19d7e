-- Drawings: where they are, and what they give.
use Rattle.std.proofs.Common.{◌≡◌, ◌∙◌, ℕ, ◌+◌, ◌*◌, ◌/◌, ◌%◌, ◌^◌, ◌<◌, ◌≤◌, ◌&&◌, Bool, true, false, Option, None, Some, List, int_le, get_or, refl, sym, ap, subst, arith}
use Rattle.std.specs.Prelude.{if◌then◌else◌, IfSome}
use Rattle.std.specs.Option.{option_map_or}
use Rattle.std.proofs.lemmas.Bool.{and_parts, or_parts}
use Rattle.std.proofs.lemmas.Int.{ints}
use Rattle.std.proofs.lemmas.Nat.{div-add-mod', div_below}
use Rattle.r9_geom.specs.declared.Point.{Point}
use Rattle.r9_geom.specs.declared.Rect.{Rect}
use Rattle.r9_geom.specs.Geometry.{carried, distance, height, holds, is_empty, point_at, width, IsOrdered, IsRectNearBy}
use Rattle.r9_geom.proofs.GeometryLemmas.{cell_of, distance_is, int_le_false, points_span, same_point}
use Rattle.r9_plane.specs.Pixels.{number_of}
use Rattle.r9_chan.specs.Op.{number}
use Rattle.model_pixel.specs.Channels.{channels, depth, expand, mask, pack, promoted}
use Rattle.model_pixel.specs.Composition.{comp, composed_raw}
use Rattle.model_forest.specs.World.{World, image_at, with_image, IsForest, IsLive}
use Rattle.model_forest.specs.View.{at, is_bare, view}
use Rattle.model_forest.specs.Draw.{Drawing, drawn, in_area, mask_value, with_canvas}
use Rattle.model_forest.specs.Cost.{area}
use Rattle.model_forest.proofs.Area.{area_is}
use Rattle.model_forest.proofs.Raws.{composed_raw_below}
use Rattle.r9_layers.specs.declared.task.Task.{Task}
use Rattle.r9_layers.specs.Area.{drawing_of, drawn_on, mask_at, mask_chan}
use Rattle.r9_layers.proofs.Areas.{area_point, int_le_true, AreaPoint}

-- a rectangle with points that lies in a near one is near, and its max is past its min
pub record IsPart (n : ℕ) (a : Rect) : Type 0 where
  pub near : IsRectNearBy n a
  pub ordered : IsOrdered a

pub part_of : (n : ℕ) (a r : Rect) → is_empty a ≡ false → ((p : Point) → holds a p ≡ true → holds r p ≡ true) → IsRectNearBy n r → IsPart n a
part_of n a r some all near =
    let solid = or_parts (int_le a.max.x a.min.x) (int_le a.max.y a.min.y) some in
    let wide = int_le_false a.max.x a.min.x solid.0 in
    let tall = int_le_false a.max.y a.min.y solid.1 in
    let s = points_span a r some all in
    let across = and_parts (int_le r.min.x a.min.x) (int_le a.max.x r.max.x) s.across in
    let down = and_parts (int_le r.min.y a.min.y) (int_le a.max.y r.max.y) s.down in
    let left = int_le_true r.min.x a.min.x across.0 in
    let right = int_le_true a.max.x r.max.x across.1 in
    let top = int_le_true r.min.y a.min.y down.0 in
    let bottom = int_le_true a.max.y r.max.y down.1 in
    record {
      near = record {
        min = record {
          left = omega (arith, ints, near.min.left);
          right = omega (arith, ints, near.max.right);
          top = omega (arith, ints, near.min.top);
          bottom = omega (arith, ints, near.max.bottom);
        };
        max = record {
          left = omega (arith, ints, near.min.left);
          right = omega (arith, ints, near.max.right);
          top = omega (arith, ints, near.min.top);
          bottom = omega (arith, ints, near.max.bottom);
        };
      };
      ordered = record { across = omega (arith, ints); down = omega (arith, ints) };
    }

-- what holds of the pixel in each row and column holds of each pixel
pub grid_each : (P : ℕ → Type 0) (pixels : List ℕ) (h w i : ℕ) → ((column row : ℕ) → column < w → row < h → P (get_or pixels (row * w + column) 0)) → i < h * w → P (get_or pixels i 0)
grid_each P pixels h w i each below =
    let some : 0 < w = positive w below in
    let place : i / w * w + i % w ≡ i = div-add-mod' i w in
    subst (λ n. P (get_or pixels n 0)) place (each (i % w) (i / w) (omega arith) (div_below i w h some below))
  where
    positive : (v : ℕ) → i < h * v → 0 < v
    positive v less = grind arith

-- what holds of each row and column of a rectangle, and of the pixel there, holds of each point
pub grid_at : (within : Rect) (pixels : List ℕ) (P : Point → ℕ → Type 0) → ((column row : ℕ) → column < width within → row < height within → P (point_at within column row) (get_or pixels (row * width within + column) 0)) → (p : Point) → holds within p ≡ true → P p (get_or pixels (number_of within p) 0)
grid_at within pixels P each p inside =
    let cell = cell_of within p inside in
    subst (λ q. P q (get_or pixels (number_of within p) 0))
    (same_point (point_at within (distance within.min.x p.x) (distance within.min.y p.y)) p cell.left cell.top)
    (each (distance within.min.x p.x) (distance within.min.y p.y) cell.column cell.row)

-- a full mask lets all through
full_is : mask 0x38 255 ≡ 255
unfolding mask expand channels promoted
full_is = refl

-- what the mask lets through at a point
mask_is : (world : World) (task : Task) (p : Point) → mask (mask_chan world task.mask) (mask_at world task p) ≡ mask_value world (drawing_of task) p
mask_is world task p = through task.mask
  where
    through : (o : Option ℕ) → mask (mask_chan world o) (option_map_or (λ i. at world i (carried p task.r.min task.mp)) o 255) ≡ option_map_or (λ i. mask (image_at world i).chan (at world i (carried p task.r.min task.mp))) o 255
    through None = full_is
    through (Some i) = refl

-- a mask image that gives one pixel everywhere does so wherever it stands
pub single_is : (world : World) (task : Task) (i : ℕ) (o : Option ℕ) → task.mask ≡ Some i → IfSome o (λ raw. (p : Point) → at world i p ≡ raw) → IfSome o (λ raw. (p : Point) → mask_at world task p ≡ raw)
single_is world task i None is same = same
single_is world task i (Some raw) is same = λ p.
    ap (λ mask. option_map_or (λ j. at world j (carried p task.r.min task.mp)) mask 255) is
    ∙ same (carried p task.r.min task.mp)

-- a bare point of the target gets what the drawing gives it
pub drawn_is : (world : World) (task : Task) (p : Point) → drawn_on world task p (view world task.dst p) ≡ drawn world (drawing_of task) p
unfolding composed_raw
drawn_is world task p =
    ap
    (λ m. pack (image_at world task.dst).chan
    (comp (number task.op)
    (expand (image_at world task.src).chan (at world task.src (carried p task.r.min task.sp)))
    m
    (expand (image_at world task.dst).chan (view world task.dst p))))
    (mask_is world task p)

-- whatever its own pixel is, what a point gets fits the target's channels
pub drawn_on_below : (world : World) → IsForest world → (task : Task) → IsLive world task.dst → (p : Point) (own : ℕ) → drawn_on world task p own < 2 ^ depth (image_at world task.dst).chan
drawn_on_below world ok task live p own =
    composed_raw_below (image_at world task.dst).chan (image_at world task.src).chan (mask_chan world task.mask) (number task.op) (at world task.src (carried p task.r.min task.sp)) (mask_at world task p) own
    (ok.images task.dst live).chan

-- the points of the area are those that the drawing is about
pub area_tells : (world : World) (d : Drawing) (r : Rect) → r ≡ area world d → (p : Point) → holds r p ≡ in_area world d p
area_tells world d r is p = ap (λ s. holds s p) is ∙ area_is world d p

pub area_at : (world : World) (d : Drawing) (r : Rect) → r ≡ area world d → (p : Point) → holds r p ≡ true → AreaPoint world d p
area_at world d r is p h = area_point world d p (sym (area_tells world d r is p) ∙ h)

-- a canvas that is written where the same points are bare, with the same there
pub with_canvas-same : (world : World) (i : ℕ) (a b : Point → Bool) (x y : Point → ℕ) → ((p : Point) → a p ≡ b p) → ((p : Point) → a p ≡ true → is_bare (image_at world i).windows p ≡ true → x p ≡ y p) → with_canvas world i a x ≡ with_canvas world i b y
with_canvas-same world i a b x y same agree = λ j.
    let image = image_at world i in
    with_image world i
    (Some (record image {
      canvas = λ p. by_cases (a p) (b p) (is_bare image.windows p) (x p) (y p) (image.canvas p) (same p) (agree p) j;
    }))
  where
    by_cases : (s t bare : Bool) (m n own : ℕ) → s ≡ t → (s ≡ true → bare ≡ true → m ≡ n) → (if s && bare then m else own) ≡ (if t && bare then n else own)
    by_cases s false bare m n own e f = ap (λ v. if v && bare then m else own) e
    by_cases s true false m n own e f = ap (λ v. if v && false then m else own) e
    by_cases s true true m n own e f = ap (λ v. if v && true then m else own) e ∙ f e refl

-- a pixel that hides each target is what each point gets, and fits
pub solid_is : (world : World) (task : Task) (dst src through s m : ℕ) (o : Option ℕ) → dst ≡ (image_at world task.dst).chan → src ≡ (image_at world task.src).chan → through ≡ mask_chan world task.mask → ((p : Point) → at world task.src p ≡ s) → ((p : Point) → mask_at world task p ≡ m) → IfSome o (λ raw. (d : ℕ) → composed_raw dst src through (number task.op) s m d ≡ raw) → IfSome o (λ raw. (p : Point) → drawn world (drawing_of task) p ≡ raw)
solid_is world task dst src through s m None dst_is src_is mask_is source mask same = same
solid_is world task dst src through s m (Some raw) dst_is src_is mask_is source mask same = λ p.
    sym (drawn_is world task p)
    ∙ (λ i. composed_raw (sym dst_is i) (sym src_is i) (sym mask_is i) (number task.op) (source (carried p task.r.min task.sp) i) (mask p i) (view world task.dst p))
    ∙ same (view world task.dst p)

pub solid_below : (world : World) → IsForest world → (task : Task) → IsLive world task.dst → (dst src through s m : ℕ) (o : Option ℕ) → dst ≡ (image_at world task.dst).chan → IfSome o (λ raw. (d : ℕ) → composed_raw dst src through (number task.op) s m d ≡ raw) → IfSome o (λ raw. raw < 2 ^ depth (image_at world task.dst).chan)
solid_below world ok task live dst src through s m None is same = same
solid_below world ok task live dst src through s m (Some raw) is same =
    subst (λ (n : ℕ). n < 2 ^ depth (image_at world task.dst).chan) (ap (λ chan. composed_raw chan src through (number task.op) s m 0) (sym is) ∙ same 0)
    (composed_raw_below (image_at world task.dst).chan src through (number task.op) s m 0 (ok.images task.dst live).chan)

-- the area lies in the rectangle that is drawn into
pub area_part : (world : World) (task : Task) (r : Rect) → r ≡ area world (drawing_of task) → is_empty r ≡ false → IsPart (2 ^ 34) r
area_part world task r is some = part_of (2 ^ 34) r task.r some (λ p h. (area_at world (drawing_of task) r is p h).asked) task.near

pub part_width : (r : Rect) → IsPart (2 ^ 34) r → width r ≤ 2 ^ 35
part_width r is =
    let w = distance_is r.min.x r.max.x is.ordered.across in
    omega (arith, ints, w, is.near.min.left, is.near.max.right)
