-- Windows at other places, and an image whose rectangle gets another corner.
use Rattle.std.proofs.Common.{◌≡◌, ℕ, ◌<◌, ◌≤◌, ◌^◌, Bool, true, false, Option, None, Some, refl, sym, ◌∙◌, ap, subst, arith}
use Rattle.std.specs.Prelude.{◌==◌, unwrap_or, if◌then◌else◌}
use Rattle.std.proofs.lemmas.Bool.Decides.{Decides-eqb}
use Rattle.std.proofs.lemmas.Int.{ints, clamps}
use Rattle.std.proofs.lemmas.List.{length-map}
use Rattle.std.proofs.lemmas.List.Elements.{All-map, All-weaker}
use Rattle.r9_geom.specs.declared.Point.{Point}
use Rattle.r9_geom.specs.declared.Rect.{Rect}
use Rattle.r9_geom.specs.Geometry.{carried, height, natural, width, HasPoints, IsNearBy, IsOrdered, IsRectNearBy}
use Rattle.r9_geom.proofs.GeometryLemmas.{distance_is}
use Rattle.model_forest.specs.declared.Window.{Window}
use Rattle.model_forest.specs.World.{Image, World, image_at, no_image, origin_point, with_image, IsForest, IsImage, IsLive, IsWindowOf, SameSize}
use Rattle.model_forest.specs.Stack.{moved, moved_window, with_windows}
use Rattle.model_forest.specs.Steps.{carried_rect, clamped_rect, shifted_image}
use Rattle.model_forest.proofs.Changes.{with_image-at}
use Rattle.model_forest.proofs.Listed.{listed-moved, listed-placed, times-moved, times-placed}
use Rattle.model_forest.proofs.Sound.{IsForestBut-any, IsForestBut-with_image, IsForest-all, IsStill, IsStill-with_image, IsWindowOf-placed, SameStand, SameStand-itself}
use Rattle.model_forest.proofs.Windows.{IsForest-with_windows}

IsStill-itself : (world : World) → IsStill world world
IsStill-itself world = record { live = λ n. refl; same = λ n. SameStand-itself (image_at world n) }

-- a window moves to a place of its size
IsWindowOf-moved : (world : World) (i p : ℕ) (place : Rect) (w : Window) → SameSize place (image_at world i).r → IsNearBy (2 ^ 36) (carried place.min (image_at world p).r.min origin_point) → IsWindowOf world p w → IsWindowOf world p (moved_window i place w)
IsWindowOf-moved world i p place w size reach is = by_cases (w.image == i) refl
  where
    by_cases : (b : Bool) → (w.image == i) ≡ b → IsWindowOf world p (if b then record { image = i; place = place } else w)
    by_cases true e =
        let same : w.image ≡ i = (Decides-eqb w.image i).0 e in
        let own : SameSize place (image_at world w.image).r = subst (λ k. SameSize place (image_at world k).r) (sym same) size in
        subst (λ k. IsWindowOf world p (record { image = k; place = place })) same
        (IsWindowOf-placed world world p w place (IsStill-itself world) (record { width = own.width ∙ sym is.size.width; height = own.height ∙ sym is.size.height }) reach is)
    by_cases false e = is

pub IsForest-moved : (world : World) (i p : ℕ) (place : Rect) → IsLive world p → SameSize place (image_at world i).r → IsNearBy (2 ^ 36) (carried place.min (image_at world p).r.min origin_point) → IsForest world → IsForest (with_windows world p (moved i place (image_at world p).windows))
IsForest-moved world i p place live size reach ok =
    let ws = (image_at world p).windows in
    IsForest-with_windows world p (moved i place ws) live
    (subst (λ n. n < 2 ^ 32) (sym (length-map ws (moved_window i place))) (ok.images p live).few)
    (All-map (IsWindowOf world p) (moved_window i place) ws
    (All-weaker (IsWindowOf world p) (λ w. IsWindowOf world p (moved_window i place w)) (λ w. IsWindowOf-moved world i p place w size reach) ws (ok.windows p live)))
    (λ n was. listed-moved i place ws n ∙ was)
    (λ n. subst (λ k. k ≤ 1) (sym (times-moved i place ws n)) (ok.once p n live))
    ok

-- what is carried has the same size
pub SameSize-carried : (r : Rect) (from to : Point) → SameSize (carried_rect r from to) r
SameSize-carried r from to = record { width = omega (arith, ints); height = omega (arith, ints) }

pub width-carried : (r : Rect) (from to : Point) → width (carried_rect r from to) ≡ width r
width-carried r from to = ap natural (SameSize-carried r from to).width

pub height-carried : (r : Rect) (from to : Point) → height (carried_rect r from to) ≡ height r
height-carried r from to = ap natural (SameSize-carried r from to).height

-- a corner that is near
pub carried_min_near : (n : ℕ) (p q : Point) → IsNearBy n q → IsNearBy n (carried p p q)
carried_min_near n p q near = record {
  left = omega (arith, ints, near.left);
  right = omega (arith, ints, near.right);
  top = omega (arith, ints, near.top);
  bottom = omega (arith, ints, near.bottom);
}

-- the far corner is no further than the size lets it
carried_max_near : (r : Rect) (q : Point) → IsOrdered r → width r ≤ 2 ^ 35 → height r ≤ 2 ^ 35 → IsNearBy (2 ^ 34) q → IsNearBy (2 ^ 36) (carried r.max r.min q)
carried_max_near r q ordered columns rows near =
    let across = distance_is r.min.x r.max.x ordered.across in
    let down = distance_is r.min.y r.max.y ordered.down in
    record {
      left = omega (arith, ints, across, columns, near.left);
      right = omega (arith, ints, across, columns, near.right);
      top = omega (arith, ints, down, rows, near.top);
      bottom = omega (arith, ints, down, rows, near.bottom);
    }

clamped_near : (r : Rect) → IsRectNearBy (2 ^ 34) (clamped_rect r)
clamped_near r = record {
  min = record { left = omega (arith, ints, clamps); right = omega (arith, ints, clamps); top = omega (arith, ints, clamps); bottom = omega (arith, ints, clamps) };
  max = record { left = omega (arith, ints, clamps); right = omega (arith, ints, clamps); top = omega (arith, ints, clamps); bottom = omega (arith, ints, clamps) };
}

carried_points : (r : Rect) (from to : Point) → HasPoints r → HasPoints (carried_rect r from to)
carried_points r from to some = record { across = omega (arith, ints, some.across); down = omega (arith, ints, some.down) }

carried_ordered : (r : Rect) (from to : Point) → IsOrdered r → IsOrdered (carried_rect r from to)
carried_ordered r from to ordered = record { across = omega (arith, ints, ordered.across); down = omega (arith, ints, ordered.down) }

IsImage-shifted : (image : Image) (min : Point) → IsNearBy (2 ^ 34) min → IsImage image → IsImage (shifted_image image min)
IsImage-shifted image min near is = record {
  shallow = is.shallow;
  ordered = carried_ordered image.r image.r.min min is.ordered;
  near_min = carried_min_near (2 ^ 34) image.r.min min near;
  near_max = carried_max_near image.r min is.ordered is.columns is.rows near;
  columns = subst (λ n. n ≤ 2 ^ 35) (sym (width-carried image.r image.r.min min)) is.columns;
  rows = subst (λ n. n ≤ 2 ^ 35) (sym (height-carried image.r image.r.min min)) is.rows;
  clip = clamped_near (carried_rect image.clipr image.r.min min);
  few = subst (λ n. n < 2 ^ 32) (sym (length-map image.windows (λ (w : Window). let v : Window = record { image = w.image; place = carried_rect w.place image.r.min min } in v))) is.few;
  chan = is.chan;
  raws = λ p. is.raws (carried p min image.r.min);
  repeats = λ repeats. carried_points image.r image.r.min min (is.repeats repeats);
}

-- a place that moves along with its image reaches as far
carried_reach : (place r : Rect) (min : Point) → IsNearBy (2 ^ 36) (carried place.min r.min origin_point) → IsNearBy (2 ^ 36) (carried (carried place.min r.min min) (carried r.min r.min min) origin_point)
carried_reach place r min near = record {
  left = omega (arith, ints, near.left);
  right = omega (arith, ints, near.right);
  top = omega (arith, ints, near.top);
  bottom = omega (arith, ints, near.bottom);
}

pub IsForest-shifted : (world : World) (i : ℕ) (min : Point) → IsLive world i → IsNearBy (2 ^ 34) min → IsForest world → IsForest (with_image world i (Some (shifted_image (image_at world i) min)))
IsForest-shifted world i min live near ok =
    let old : Image = image_at world i in
    let image : Image = shifted_image old min in
    let new : World = with_image world i (Some image) in
    let stand : SameStand image old = record { standing = refl; depth = refl; chan = refl; size = SameSize-carried old.r old.r.min min } in
    let still : IsStill world new = IsStill-with_image world i image live stand in
    let here : (image_at new i).r.min ≡ image.r.min = ap (λ (slot : Option Image). (unwrap_or slot no_image).r.min) (with_image-at world i (Some image)) in
    let along : Window → Window = λ w. record { image = w.image; place = carried_rect w.place old.r.min min } in
    IsForest-all new
    (IsForestBut-with_image world None i image live stand (IsImage-shifted old min near (ok.images i live))
    (All-map (IsWindowOf new i) along old.windows
    (All-weaker (IsWindowOf world i) (λ w. IsWindowOf new i (along w))
    (λ w is. IsWindowOf-placed world new i w (carried_rect w.place old.r.min min) still (SameSize-carried w.place old.r.min min) (rw here (carried_reach w.place old.r min is.reach)) is)
    old.windows (ok.windows i live)))
    (λ n apart was. listed-placed (λ w. carried_rect w.place old.r.min min) old.windows n ∙ was)
    (λ n. subst (λ k. k ≤ 1) (sym (times-placed (λ w. carried_rect w.place old.r.min min) old.windows n)) (ok.once i n live))
    (IsForestBut-any None world ok))
