-- Rectangles carried along from image to image.
use Rattle.std.proofs.Common.{◌≡◌, ◌∙◌, ℕ, true, Some, pos, ◌-ℤ◌, ap, arith}
use Rattle.std.specs.Prelude.{◌&&◌, if◌then◌else◌}
use Rattle.std.proofs.lemmas.Bool.{and_from}
use Rattle.std.proofs.lemmas.Int.{ints}
use Rattle.r9_geom.specs.declared.Point.{Point}
use Rattle.r9_geom.specs.declared.Rect.{Rect}
use Rattle.r9_geom.specs.Geometry.{carried, holds, IsRectNear}
use Rattle.r9_geom.proofs.GeometryLemmas.{bounds_of, holds_from, same_point}
use Rattle.model_forest.specs.Steps.{carried_rect}
use Rattle.model_forest.specs.World.{World, image_at, parent_of, IsLive}
use Rattle.model_kept.specs.Keeping.{is_top, keeping, outward, own, IsStanding}
use Rattle.r9_locate.proofs.locate.Locating.{keeping-up}

-- a rectangle with a point, all of which lies in one that is near
pub near_part : (r s : Rect) (w : Point) → IsRectNear s → holds r w ≡ true → ((p : Point) → holds r p ≡ true → holds s p ≡ true) → IsRectNear r
near_part r s w near h inside =
    let b = bounds_of r w h in
    let low = bounds_of s r.min (inside r.min (holds_from r r.min (record {
      left = omega (arith, ints);
      right = omega (arith, ints, b.left, b.right);
      top = omega (arith, ints);
      bottom = omega (arith, ints, b.top, b.bottom);
    }))) in
    let last : Point = record { x = r.max.x -ℤ pos 1; y = r.max.y -ℤ pos 1 } in
    let high = bounds_of s last (inside last (holds_from r last (record {
      left = omega (arith, ints, b.left, b.right);
      right = omega (arith, ints);
      top = omega (arith, ints, b.top, b.bottom);
      bottom = omega (arith, ints);
    }))) in
    record {
      min = record { left = omega (arith, ints, near.min.left, low.left); right = omega (arith, ints, near.max.right, low.right); top = omega (arith, ints, near.min.top, low.top); bottom = omega (arith, ints, near.max.bottom, low.bottom) };
      max = record { left = omega (arith, ints, near.min.left, high.left); right = omega (arith, ints, near.max.right, high.right); top = omega (arith, ints, near.min.top, high.top); bottom = omega (arith, ints, near.max.bottom, high.bottom) };
    }

-- twice along
pub carried-twice : (p from mid start to : Point) → carried (carried p from mid) start to ≡ carried p from (carried mid start to)
carried-twice p from mid start to =
    same_point (carried (carried p from mid) start to) (carried p from (carried mid start to)) (omega (arith, ints)) (omega (arith, ints))

pub carried_rect-twice : (r : Rect) (from mid start to : Point) → carried_rect (carried_rect r from mid) start to ≡ carried_rect r from (carried mid start to)
carried_rect-twice r from mid start to = λ j. record { min = carried-twice r.min from mid start to j; max = carried-twice r.max from mid start to j }

pub carried-self : (p from : Point) → carried p from from ≡ p
carried-self p from = same_point (carried p from from) p (omega (arith, ints)) (omega (arith, ints))

-- a window's point that its parent shows is kept where that keeps it
pub kept_up : (world : World) → IsStanding world → (i parent : ℕ) (p q : Point) → IsLive world i → parent_of world i ≡ Some parent → outward world parent i p ≡ q → holds (image_at world parent).r q ≡ true → is_top (image_at world parent).windows i q ≡ true → keeping world i p ≡ keeping world parent q
kept_up world ok i parent p q live stands out inside top =
    keeping-up world ok i parent p live stands
    ∙ ap (λ z. if holds (image_at world parent).r z && is_top (image_at world parent).windows i z then keeping world parent z else own i p) out
    ∙ ap (λ b. if b then keeping world parent q else own i p) (and_from (holds (image_at world parent).r q) (is_top (image_at world parent).windows i q) inside top)
