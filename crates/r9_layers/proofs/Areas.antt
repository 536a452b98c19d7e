-- What the points of a drawing's area tell.
use Rattle.std.proofs.Common.{◌≡◌, ◌∙◌, ℤ, ◌≤◌, ◌≤ℤ◌, ◌&&◌, true, false, Option, Some, None, int_le, refl, sym, ap, arith}
use Rattle.std.specs.Prelude.{if◌then◌else◌, is_some, unwrap_or}
use Rattle.std.specs.Option.{option_map_or}
use Rattle.std.proofs.lemmas.Bool.{and_from, and_parts, false≢true, or_parts}
use Rattle.std.proofs.lemmas.Int.{ints}
use Rattle.std.proofs.lemmas.Nat.{mul-le}
use Rattle.r9_geom.specs.declared.Point.{Point}
use Rattle.r9_geom.specs.declared.Rect.{Rect}
use Rattle.r9_geom.specs.Geometry.{area_of, carried, height, holds, is_empty, meet, width}
use Rattle.r9_geom.proofs.GeometryLemmas.{distance_is, empty_holds, holds-meet, int_le_false, points_span}
use Rattle.model_forest.specs.World.{Image, World, image_at, no_image, with_image, IsLive}
use Rattle.model_forest.specs.View.{is_bare}
use Rattle.model_forest.specs.Draw.{Drawing, after_draw, drawn, in_area, reaches}
use Rattle.model_forest.specs.Cost.{area}
use Rattle.model_forest.proofs.Area.{area_is}
use Rattle.model_forest.proofs.Changes.{World-changed}

pub int_le_true : (a b : ℤ) → int_le a b ≡ true → a ≤ℤ b
int_le_true a b h = grind (arith, ints)

-- What holds at a point of the area: it is one of the target's and of the rectangle that is drawn into, and the source
-- and the mask give a pixel there.
pub record AreaPoint (world : World) (d : Drawing) (p : Point) : Type 0 where
  pub own : holds (image_at world d.dst).r p ≡ true
  pub asked : holds d.r p ≡ true
  pub source : reaches (image_at world d.src) (carried p d.r.min d.sp) ≡ true
  pub through : option_map_or (λ i. reaches (image_at world i) (carried p d.r.min d.mp)) d.mask true ≡ true

pub area_point : (world : World) (d : Drawing) (p : Point) → in_area world d p ≡ true → AreaPoint world d p
area_point world d p all =
    let through = and_parts _ _ all in
    let source = and_parts _ _ through.0 in
    let r = and_parts _ _ source.0 in
    let clip = and_parts _ _ r.0 in
    let clipr = and_parts _ _ clip.0 in
    record { own = clipr.0; asked = r.1; source = source.1; through = through.1 }

-- a rectangle with points within another has at most as many
pub area_of_part : (a b : Rect) → is_empty a ≡ false → ((p : Point) → holds a p ≡ true → holds b p ≡ true) → area_of a ≤ area_of b
area_of_part a b some all =
    let solid = or_parts (int_le a.max.x a.min.x) (int_le a.max.y a.min.y) some in
    let wide = int_le_false a.max.x a.min.x solid.0 in
    let tall = int_le_false a.max.y a.min.y solid.1 in
    let s = points_span a b some all in
    let across = and_parts (int_le b.min.x a.min.x) (int_le a.max.x b.max.x) s.across in
    let down = and_parts (int_le b.min.y a.min.y) (int_le a.max.y b.max.y) s.down in
    let left = int_le_true b.min.x a.min.x across.0 in
    let right = int_le_true a.max.x b.max.x across.1 in
    let top = int_le_true b.min.y a.min.y down.0 in
    let bottom = int_le_true a.max.y b.max.y down.1 in
    let w = distance_is a.min.x a.max.x (omega (arith, ints)) in
    let v = distance_is b.min.x b.max.x (omega (arith, ints)) in
    let h = distance_is a.min.y a.max.y (omega (arith, ints)) in
    let g = distance_is b.min.y b.max.y (omega (arith, ints)) in
    mul-le (width a) (height a) (width b) (height b) (omega (arith, ints, w, v)) (omega (arith, ints, h, g))

-- the points of the area are not more than those of the rectangle cut to the target
pub area_count : (world : World) (d : Drawing) (r : Rect) → r ≡ area world d → is_empty r ≡ false → area_of r ≤ area_of (meet d.r (image_at world d.dst).r)
area_count world d r is some =
    area_of_part r (meet d.r (image_at world d.dst).r) some
    (λ p h.
    let at = area_point world d p (sym (ap (λ s. holds s p) is ∙ area_is world d p) ∙ h) in
    holds-meet d.r (image_at world d.dst).r p ∙ and_from (holds d.r p) (holds (image_at world d.dst).r p) at.asked at.own)

-- a drawing about no point changes nothing
pub area_none : (world : World) (d : Drawing) (r : Rect) → r ≡ area world d → is_empty r ≡ true → (p : Point) → in_area world d p ≡ false
area_none world d r is none p = sym (ap (λ s. holds s p) is ∙ area_is world d p) ∙ empty_holds r p none

pub drawn_nowhere : (world : World) (d : Drawing) → IsLive world d.dst → ((p : Point) → in_area world d p ≡ false) → world ≡ after_draw world d
unfolding after_draw
drawn_nowhere world d live none =
    World-changed world world d.dst (Some (image_at world d.dst)) (some_is (world d.dst) live) (λ n apart. refl)
    ∙ (λ j. with_image world d.dst (Some (record (image_at world d.dst) { canvas = λ p. kept p j })))
  where
    some_is : (o : Option Image) → is_some o ≡ true → o ≡ Some (unwrap_or o no_image)
    some_is None e = absurd (false≢true e)
    some_is (Some image) e = refl

    kept : (p : Point) → (image_at world d.dst).canvas p ≡ (if in_area world d p && is_bare (image_at world d.dst).windows p then drawn world d p else (image_at world d.dst).canvas p)
    kept p = sym (ap (λ b. if b && is_bare (image_at world d.dst).windows p then drawn world d p else (image_at world d.dst).canvas p) (none p))
