-- A rectangle of a plane among the plane's rows.
use Rattle.std.proofs.Common.{◌≡◌, ◌≢◌, ◌∙◌, ℕ, ◌+◌, ◌*◌, ◌^◌, ◌<◌, ◌≤◌, true, false, List, ap, sym, subst, arith, ⊎_elim}
use Rattle.std.specs.Prelude.{if◌then◌else◌}
use Rattle.std.proofs.Math.Nat.{add-mul}
use Rattle.std.proofs.lemmas.Bool.{cases_Bool, cond-true, cond-false, both_ways}
use Rattle.std.proofs.lemmas.Int.{ints}
use Rattle.r9_geom.specs.declared.Point.{Point}
use Rattle.r9_geom.specs.declared.Rect.{Rect}
use Rattle.r9_geom.specs.Geometry.{distance, height, holds, is_empty, point_at, width, IsOrdered}
use Rattle.r9_geom.proofs.GeometryLemmas.{bounds_of, corner, distance_is, strip_distance}
use Rattle.model_pixel.specs.Channels.{depth}
use Rattle.model_pixel.specs.Rows.{raw_at}
use Rattle.r9_plane.specs.Blocks.{number_in, HasPacked}
use Rattle.r9_plane.specs.Pixels.{number_of, pixel_of}
use Rattle.r9_plane.proofs.Marking.{inner_of, IsInner}
use Rattle.r9_plane.proofs.PlaneLemmas.{number_tells, pixel_inside, pixel_outside, row_lies, run_below, run_fits, run_narrow}

-- its points lie within the plane
abbrev pub IsPart : Rect → Rect → Type 0
IsPart whole r = (p : Point) → holds r p ≡ true → holds whole p ≡ true

pub corner_of : (whole r : Rect) → is_empty r ≡ false → IsPart whole r → holds r r.min ≡ true
corner_of whole r some lies = let inner = inner_of whole r some lies in corner r inner.across inner.down

-- a point has the number there that it has in the plane
pub number_in_plane : (whole r : Rect) (p : Point) → holds whole r.min ≡ true → holds r p ≡ true → number_in r (number_of whole r.min) (width whole) p ≡ number_of whole p
number_in_plane whole r p first h =
    let corner = bounds_of whole r.min first in
    let b = bounds_of r p h in
    let x = distance_is whole.min.x r.min.x corner.left in
    let y = distance_is whole.min.y r.min.y corner.top in
    let column = distance_is r.min.x p.x b.left in
    let row = distance_is r.min.y p.y b.top in
    let columns : distance whole.min.x p.x ≡ distance whole.min.x r.min.x + distance r.min.x p.x =
    strip_distance whole.min p (distance whole.min.x r.min.x + distance r.min.x p.x) (omega (arith, ints, x, column)) in
    let rows : distance whole.min.y p.y ≡ distance whole.min.y r.min.y + distance r.min.y p.y =
    strip_distance (record { x = whole.min.y; y = whole.min.y }) (record { x = p.y; y = p.y }) (distance whole.min.y r.min.y + distance r.min.y p.y) (omega (arith, ints, y, row)) in
    let product = ap (λ n. n * width whole) rows ∙ add-mul (distance whole.min.y r.min.y) (distance r.min.y p.y) (width whole) in
    omega (arith, columns, product)

-- its rows are among those of the plane
pub plane_rows : (whole r : Rect) (bits size : ℕ) → IsOrdered r → is_empty r ≡ false → IsPart whole r → height whole * width whole < 2 ^ 63 → height whole * width whole * bits ≤ 8 * size → HasPacked r (number_of whole r.min) (width whole) bits size
plane_rows whole r bits size ordered some lies countable room = record {
  narrow = let top = tall in omega (arith, run_narrow whole (point_at r 0 0) (width r) wide (row_lies r whole 0 ordered top lies));
  number = λ row below. omega (arith, at_row row below, run_below whole (point_at r 0 row) (width r) wide (row_lies r whole row ordered below lies), countable);
  fits = λ row below. run_fits whole (point_at r 0 row) (width r) (number_of whole r.min + row * width whole) bits size wide (row_lies r whole row ordered below lies) (at_row row below) room;
}
  where
    inner : IsInner whole r
    inner = inner_of whole r some lies

    wide : 0 < width r
    wide = let d = distance_is r.min.x r.max.x ordered.across in omega (arith, ints, d, inner.across)

    tall : 0 < height r
    tall = let d = distance_is r.min.y r.max.y ordered.down in omega (arith, ints, d, inner.down)

    at_row : (row : ℕ) → row < height r → number_of whole r.min + row * width whole ≡ number_of whole (point_at r 0 row)
    at_row row below =
        let y = distance_is whole.min.y r.min.y inner.top in
        let rows : distance whole.min.y (point_at r 0 row).y ≡ distance whole.min.y r.min.y + row =
        strip_distance (record { x = whole.min.y; y = whole.min.y }) (record { x = (point_at r 0 row).y; y = whole.min.y }) (distance whole.min.y r.min.y + row) (omega (arith, ints, y)) in
        let x : distance whole.min.x (point_at r 0 row).x ≡ distance whole.min.x r.min.x = ap (distance whole.min.x) (omega (arith, ints)) in
        let product = ap (λ n. n * width whole) rows ∙ add-mul (distance whole.min.y r.min.y) row (width whole) in
        omega (arith, x, product)

-- by the numbers that a plane keeps
pub plane_rows_at : (whole r : Rect) (bits size first across count : ℕ) → IsOrdered r → is_empty r ≡ false → IsPart whole r → height whole * width whole < 2 ^ 63 → height whole * width whole * bits ≤ 8 * size → first ≡ number_of whole r.min → across ≡ width whole → size ≡ count → HasPacked r first across bits count
plane_rows_at whole r bits size first across count ordered some lies countable room first_is across_is size_is =
    subst (λ (n : ℕ). HasPacked r n across bits count) (sym first_is)
    (subst (λ (n : ℕ). HasPacked r (number_of whole r.min) n bits count) (sym across_is)
    (subst (λ (n : ℕ). HasPacked r (number_of whole r.min) (width whole) bits n) size_is (plane_rows whole r bits size ordered some lies countable room)))

-- what its packed pixels became, and no others, the plane shows
pub block_written : (whole r : Rect) (chan : ℕ) (old new : List ℕ) (value : Point → ℕ) → holds whole r.min ≡ true → IsPart whole r → ((p : Point) → holds r p ≡ true → raw_at (depth chan) new (number_in r (number_of whole r.min) (width whole) p) ≡ value p) → ((n : ℕ) → ((p : Point) → holds r p ≡ true → n ≢ number_in r (number_of whole r.min) (width whole) p) → raw_at (depth chan) new n ≡ raw_at (depth chan) old n) → (q : Point) → pixel_of whole chan new q ≡ (if holds r q then value q else pixel_of whole chan old q)
block_written whole r chan old new value first lies written others q =
    ⊎_elim
    (λ (h : holds r q ≡ true).
    pixel_inside whole chan new q (lies q h)
    ∙ ap (raw_at (depth chan) new) (sym (number_in_plane whole r q first h))
    ∙ written q h
    ∙ sym (cond-true _ _ _ h))
    (λ (h : holds r q ≡ false).
    ⊎_elim
    (λ (e : holds whole q ≡ true).
    pixel_inside whole chan new q e
    ∙ others (number_of whole q)
    (λ p inside same.
    let point : q ≡ p = number_tells whole q p e (lies p inside) (same ∙ number_in_plane whole r p first inside) in
    both_ways _ h (ap (holds r) point ∙ inside))
    ∙ sym (pixel_inside whole chan old q e))
    (λ (e : holds whole q ≡ false). pixel_outside whole chan new q e ∙ sym (pixel_outside whole chan old q e))
    (cases_Bool (holds whole q))
    ∙ sym (cond-false _ _ _ h))
    (cases_Bool (holds r q))
