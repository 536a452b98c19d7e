-- A rectangle that gets another min: its points move along, and keep their numbers.
use Rattle.std.proofs.Common.{◌≡◌, ℕ, ℤ, ◌-ℤ◌, ◌+ℤ◌, ◌+◌, ◌*◌, ap, sym, List, arith}
use Rattle.std.specs.Prelude.{if◌then◌else◌}
use Rattle.std.proofs.lemmas.Int.{ints}
use Rattle.r9_geom.specs.declared.Point.{Point}
use Rattle.r9_geom.specs.declared.Rect.{Rect}
use Rattle.r9_geom.specs.Geometry.{at_min, carried, height, holds, natural, width, IsOrdered}
use Rattle.r9_geom.proofs.GeometryLemmas.{bounds_of, holds_from, same_tests}
use Rattle.model_pixel.specs.Channels.{depth}
use Rattle.model_pixel.specs.Rows.{raw_at}
use Rattle.r9_plane.specs.Pixels.{number_of, pixel_of}

pub holds-at_min : (r : Rect) (min p : Point) → holds (at_min r min) p ≡ holds r (carried p min r.min)
holds-at_min r min p =
    same_tests _ _
    (λ h. let m = bounds_of (at_min r min) p h in
    holds_from r (carried p min r.min) (record { left = omega (arith, ints, m.left); right = omega (arith, ints, m.right); top = omega (arith, ints, m.top); bottom = omega (arith, ints, m.bottom) }))
    (λ h. let m = bounds_of r (carried p min r.min) h in
    holds_from (at_min r min) p (record { left = omega (arith, ints, m.left); right = omega (arith, ints, m.right); top = omega (arith, ints, m.top); bottom = omega (arith, ints, m.bottom) }))

-- a distance from one corner to another that was carried along
carried_off : (low x from : ℤ) → x -ℤ low ≡ x -ℤ low +ℤ from -ℤ from
carried_off low x from = omega (arith, ints)

pub width-at_min : (r : Rect) (min : Point) → width (at_min r min) ≡ width r
width-at_min r min = ap natural (sym (carried_off r.min.x r.max.x min.x))

pub height-at_min : (r : Rect) (min : Point) → height (at_min r min) ≡ height r
height-at_min r min = ap natural (sym (carried_off r.min.y r.max.y min.y))

pub number-at_min : (r : Rect) (min p : Point) → number_of (at_min r min) p ≡ number_of r (carried p min r.min)
number-at_min r min p = λ j.
    natural (carried_off min.y p.y r.min.y j) * width-at_min r min j + natural (carried_off min.x p.x r.min.x j)

pub pixel-at_min : (r : Rect) (chan : ℕ) (bytes : List ℕ) (min p : Point) → pixel_of (at_min r min) chan bytes p ≡ pixel_of r chan bytes (carried p min r.min)
unfolding pixel_of
pixel-at_min r chan bytes min p = λ j.
    if holds-at_min r min p j then raw_at (depth chan) bytes (number-at_min r min p j) else 0

pub ordered-at_min : (r : Rect) (min : Point) → IsOrdered r → IsOrdered (at_min r min)
ordered-at_min r min is = record { across = omega (arith, ints, is.across); down = omega (arith, ints, is.down) }
