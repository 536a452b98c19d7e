-- The area of a drawing is the points of a rectangle.
use Rattle.std.proofs.Common.{◌≡◌, ℕ, Bool, true, false, ◌&&◌, ◌||◌, ◌∙◌, ap, arith, refl, Option, Some, None}
use Rattle.std.specs.Option.{option_map_or}
use Rattle.std.specs.Prelude.{if◌then◌else◌}
use Rattle.std.proofs.lemmas.Int.{ints}
use Rattle.r9_geom.specs.declared.Point.{Point}
use Rattle.r9_geom.specs.declared.Rect.{Rect}
use Rattle.r9_geom.specs.Geometry.{holds, meet, carried}
use Rattle.r9_geom.proofs.GeometryLemmas.{holds-meet}
pub use Rattle.r9_geom.proofs.GeometryLemmas.{bounds_of, holds_from, same_tests}
use Rattle.model_forest.specs.World.{Image, World, image_at}
use Rattle.model_forest.specs.Draw.{Drawing, reaches, in_area}
use Rattle.model_forest.specs.Steps.{carried_rect}
use Rattle.model_forest.specs.Cost.{reach, area}

-- a point of the carried rectangle, carried back
holds-carried : (r : Rect) (from to p : Point) → holds (carried_rect r from to) p ≡ holds r (carried p to from)
holds-carried r from to p =
    same_tests _ _
    (λ h. let m = bounds_of (carried_rect r from to) p h in
    holds_from r (carried p to from) (record { left = omega (arith, ints, m.left); right = omega (arith, ints, m.right); top = omega (arith, ints, m.top); bottom = omega (arith, ints, m.bottom) }))
    (λ h. let m = bounds_of r (carried p to from) h in
    holds_from (carried_rect r from to) p (record { left = omega (arith, ints, m.left); right = omega (arith, ints, m.right); top = omega (arith, ints, m.top); bottom = omega (arith, ints, m.bottom) }))

and_true : (a b : Bool) → (a && b) ≡ (a && (b && true))
and_true true true = refl
and_true _ _ = refl

and_assoc : (a b c : Bool) → ((a && b) && c) ≡ (a && (b && c))
and_assoc true b c = refl
and_assoc false b c = refl

reach_cases : (repl a b c : Bool) → (if repl then (a && b) else ((a && b) && c)) ≡ (a && (b && (repl || c)))
reach_cases true a b c = and_true a b
reach_cases false a b c = and_assoc a b c

pick : (repl : Bool) (x y : Rect) (p : Point) → holds (if repl then x else y) p ≡ (if repl then holds x p else holds y p)
pick true x y p = refl
pick false x y p = refl

-- the points that an image gives a pixel to
holds-reach : (image : Image) (from to : Point) (r : Rect) (p : Point) → holds (reach image from to r) p ≡ (holds r p && reaches image (carried p to from))
holds-reach image from to r p =
    let clipped = meet r (carried_rect image.clipr from to) in
    let first : holds clipped p ≡ (holds r p && holds image.clipr (carried p to from)) =
    holds-meet r (carried_rect image.clipr from to) p ∙ ap (λ b. holds r p && b) (holds-carried image.clipr from to p) in
    let second : holds (meet clipped (carried_rect image.r from to)) p ≡ ((holds r p && holds image.clipr (carried p to from)) && holds image.r (carried p to from)) =
    holds-meet clipped (carried_rect image.r from to) p ∙ ap (λ b. holds clipped p && b) (holds-carried image.r from to p) ∙ ap (λ b. b && holds image.r (carried p to from)) first in
    pick image.repl clipped (meet clipped (carried_rect image.r from to)) p
    ∙ ap (λ b. if image.repl then b else holds (meet clipped (carried_rect image.r from to)) p) first
    ∙ ap (λ b. if image.repl then (holds r p && holds image.clipr (carried p to from)) else b) second
    ∙ reach_cases image.repl (holds r p) (holds image.clipr (carried p to from)) (holds image.r (carried p to from))

rearranged : (r d c cut s m : Bool) → ((((((r && d) && c) && cut) && s) && m)) ≡ (((((d && c) && cut) && r) && s) && m)
rearranged true true true true s m = refl
rearranged true true true false s m = refl
rearranged true true false cut s m = refl
rearranged true false c cut s m = refl
rearranged false true true true s m = refl
rearranged false true true false s m = refl
rearranged false true false cut s m = refl
rearranged false false c cut s m = refl

masked : (world : World) (d : Drawing) (mask : Option ℕ) (r : Rect) (p : Point)
    → holds (option_map_or (λ i. reach (image_at world i) d.mp d.r.min r) mask r) p ≡ (holds r p && option_map_or (λ i. reaches (image_at world i) (carried p d.r.min d.mp)) mask true)
masked world d None r p = and_one (holds r p)
  where
    and_one : (b : Bool) → b ≡ (b && true)
    and_one true = refl
    and_one false = refl
masked world d (Some i) r p = holds-reach (image_at world i) d.mp d.r.min r p

pub area_is : (world : World) (d : Drawing) (p : Point) → holds (area world d) p ≡ in_area world d p
area_is world d p =
    let dst = image_at world d.dst in
    let cut = meet (meet (meet d.r dst.r) dst.clipr) d.clip in
    let sourced = reach (image_at world d.src) d.sp d.r.min cut in
    let s = reaches (image_at world d.src) (carried p d.r.min d.sp) in
    let m = option_map_or (λ i. reaches (image_at world i) (carried p d.r.min d.mp)) d.mask true in
    let first : holds cut p ≡ (((holds d.r p && holds dst.r p) && holds dst.clipr p) && holds d.clip p) =
    holds-meet (meet (meet d.r dst.r) dst.clipr) d.clip p
    ∙ ap (λ b. b && holds d.clip p) (holds-meet (meet d.r dst.r) dst.clipr p ∙ ap (λ b. b && holds dst.clipr p) (holds-meet d.r dst.r p)) in
    masked world d d.mask sourced p
    ∙ ap (λ b. b && m) (holds-reach (image_at world d.src) d.sp d.r.min cut p ∙ ap (λ b. b && s) first)
    ∙ rearranged (holds d.r p) (holds dst.r p) (holds dst.clipr p) (holds d.clip p) s m
