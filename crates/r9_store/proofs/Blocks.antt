-- Pixels of a rectangle of a tile.
use Rattle.std.proofs.Common.{◌≡◌, ◌≢◌, ◌∙◌, ℕ, ◌+◌, ◌-◌, ◌*◌, ◌<◌, ◌≤◌, ◌^◌, pos, ◌+ℤ◌, Bool, true, false, ◌&&◌, List, set, get_or, Option, Some, None, ⊎_elim, arith, refl, ap, sym}
use Rattle.std.specs.Prelude.{if◌then◌else◌, ◌==◌, slice_index}
use Rattle.std.proofs.lemmas.Bool.{cases_Bool, cases_lt, both_ways}
use Rattle.std.proofs.lemmas.Bool.Decides.{Decides-eqb}
use Rattle.std.proofs.lemmas.Int.{ints}
use Rattle.std.proofs.lemmas.List.{get_or-set_other, get_or-set_same}
use Rattle.std.proofs.lemmas.Nat.{mul-le}
use Rattle.r9_geom.specs.declared.Point.{Point}
use Rattle.r9_geom.specs.declared.Rect.{Rect}
use Rattle.r9_geom.specs.Geometry.{area_of, carried, distance, height, holds, point_at, width, HasPoints, IsOrdered}
use Rattle.r9_geom.proofs.GeometryLemmas.{bounds_of, cell_of, corner, distance_is, holds_from, point_holds, same_point, strip_distance, Cell}
use Rattle.r9_plane.specs.Blocks.{number_in, HasRows}
use Rattle.r9_store.specs.Tiles.{cell, place_of}
use Rattle.r9_store.proofs.Pixels.{is_below, place_below, place_is, shown}

-- a rectangle lies within a tile
abbrev pub LiesIn : Rect → Type 0
LiesIn r = (p : Point) → holds r p ≡ true → holds cell p ≡ true

-- a point of it has the place that it has among rows of 32
pub place_in : (r : Rect) (p : Point) → holds cell r.min ≡ true → holds r p ≡ true → holds cell p ≡ true → number_in r (place_of r.min) 32 p ≡ place_of p
place_in r p first h inside =
    let b = bounds_of r p h in
    let corner = cell_of cell r.min first in
    let there = cell_of cell p inside in
    let across = distance_is r.min.x p.x b.left in
    let down = distance_is r.min.y p.y b.top in
    let x : distance (pos 0) r.min.x + distance r.min.x p.x ≡ distance (pos 0) p.x = omega (arith, ints, corner.left, there.left, across) in
    let y : distance (pos 0) r.min.y + distance r.min.y p.y ≡ distance (pos 0) p.y = omega (arith, ints, corner.top, there.top, down) in
    omega (arith, x, y)

-- the pixels of these points have become others, and no more
pub record PutAt (is : Point → Bool) (value : Point → ℕ) (old new : List ℕ) : Type 0 where
  pub written : (p : Point) → is p ≡ true → slice_index new (place_of p) ≡ value p
  pub others : (n : ℕ) → ((p : Point) → is p ≡ true → n ≢ place_of p) → slice_index new n ≡ slice_index old n

put_here : (is : Point → Bool) (value : Point → ℕ) (old new : List ℕ) (q : Point) → ((p : Point) → is p ≡ true → holds cell p ≡ true) → PutAt is value old new → (h : Bool) → is q ≡ h → shown (Some new) q ≡ (if h then value q else shown (Some old) q)
put_here is value old new q lies put true e = rw (lies q e) (put.written q e)
put_here is value old new q lies put false e =
    ⊎_elim
    (λ (k : holds cell q ≡ true).
    rw k (put.others (place_of q) (λ p inside same.
    let there : p ≡ q = place_is p q (lies p inside) k (sym same) in
    both_ways _ e (ap is (sym there) ∙ inside))))
    (λ (k : holds cell q ≡ false). rw k refl)
    (cases_Bool (holds cell q))

-- these pixels of one tile have changed
pub shown-put_at : (slots : List (Option (List ℕ))) (t : ℕ) (old new : List ℕ) (is : Point → Bool) (value : Point → ℕ) → get_or slots t None ≡ Some old → ((p : Point) → is p ≡ true → holds cell p ≡ true) → PutAt is value old new → (u : ℕ) (q : Point) → shown (get_or (set slots t (Some new)) u None) q ≡ (if (u == t) && is q then value q else shown (get_or slots u None) q)
shown-put_at slots t old new is value held lies put u q =
    ⊎_elim
    (λ (e : (u == t) ≡ true).
    let same = (Decides-eqb u t).0 e in
    rw (e, same, get_or-set_same slots t (Some new) None (is_below slots t old held), held) (put_here is value old new q lies put (is q) refl))
    (λ (e : (u == t) ≡ false).
    rw e
    (ap (λ slot. shown slot q) (get_or-set_other slots t u (Some new) None (λ same. both_ways _ e ((Decides-eqb u t).1 same)))))
    (cases_Bool (u == t))

-- the points of a rectangle that has some
pub ordered_of : (r : Rect) → HasPoints r → IsOrdered r
ordered_of r points = record { across = omega (arith, ints, points.across); down = omega (arith, ints, points.down) }

pub corner_in : (r : Rect) → HasPoints r → LiesIn r → holds cell r.min ≡ true
corner_in r points lies = lies r.min (corner r points.across points.down)

-- the rows of a rectangle of a tile are among its rows
pub rows_fit : (r : Rect) → HasPoints r → LiesIn r → HasRows r (place_of r.min) 32 1024
rows_fit r points lies = record {
  narrow = let end = at_end 0 (omega (arith, high)) in omega (arith, end.column, first.column, wide_in 0 (omega (arith, high)));
  fits = λ row below.
      let end = at_end row below in
      let place = place_in r (point_at r (width r - 1) row) inside (point_holds r (width r - 1) row (omega (arith, wide)) below) (in_cell row below) in
      let low = place_below (point_at r (width r - 1) row) (in_cell row below) in
      let x : distance r.min.x (point_at r (width r - 1) row).x ≡ width r - 1 = strip_distance r.min (point_at r (width r - 1) row) (width r - 1) refl in
      let y : distance r.min.y (point_at r (width r - 1) row).y ≡ row = strip_distance (record { x = r.min.y; y = r.min.y }) (record { x = r.min.y +ℤ pos row; y = r.min.y }) row refl in
      let product = ap (λ (n : ℕ). place_of r.min + n * 32 + distance r.min.x (point_at r (width r - 1) row).x) y in
      omega (arith, place, low, x, product, wide);
}
  where
    inside : holds cell r.min ≡ true
    inside = corner_in r points lies

    first : Cell cell r.min
    first = cell_of cell r.min inside

    wide : 0 < width r
    wide = let d = distance_is r.min.x r.max.x (omega (arith, ints, points.across)) in omega (arith, ints, d, points.across)

    high : 0 < height r
    high = let d = distance_is r.min.y r.max.y (omega (arith, ints, points.down)) in omega (arith, ints, d, points.down)

    in_cell : (row : ℕ) → row < height r → holds cell (point_at r (width r - 1) row) ≡ true
    in_cell row below = lies (point_at r (width r - 1) row) (point_holds r (width r - 1) row (omega (arith, wide)) below)

    at_end : (row : ℕ) → row < height r → Cell cell (point_at r (width r - 1) row)
    at_end row below = cell_of cell (point_at r (width r - 1) row) (in_cell row below)

    wide_in : (row : ℕ) → row < height r → distance (pos 0) r.min.x + (width r - 1) ≡ distance (pos 0) (point_at r (width r - 1) row).x
    wide_in row below = let end = at_end row below in omega (arith, ints, first.left, end.left)

-- such a rectangle has few points
pub few_points : (r : Rect) (place : ℕ) → HasRows r place 32 1024 → area_of r < 2 ^ 64
few_points r place rows =
    let low : height r ≤ 33 =
    ⊎_elim
    (λ (some : 0 < height r). omega (arith, rows.fits (height r - 1) (omega (arith, some))))
    (λ (none : height r ≤ 0). omega arith)
    (cases_lt 0 (height r)) in
    omega (arith, mul-le (width r) (height r) 32 33 rows.narrow low)

-- a rectangle that is carried so that its min stands at a point of a tile
pub carried_back : (p a b : Point) → carried (carried p a b) b a ≡ p
carried_back p a b = same_point (carried (carried p a b) b a) p (omega (arith, ints)) (omega (arith, ints))

abbrev pub LiesAt : Rect → Point → Type 0
LiesAt r at = (p : Point) → holds r p ≡ true → holds cell (carried p r.min at) ≡ true

moved : Rect → Point → Rect
moved r at = record { min = at; max = carried r.max r.min at }

moved_holds : (r : Rect) (at p : Point) → holds (moved r at) (carried p r.min at) ≡ true → holds r p ≡ true
unfolding moved
moved_holds r at p h =
    let b = bounds_of (record { min = at; max = carried r.max r.min at }) (carried p r.min at) h in
    holds_from r p (record { left = omega (arith, ints, b.left); right = omega (arith, ints, b.right); top = omega (arith, ints, b.top); bottom = omega (arith, ints, b.bottom) })

holds_moved : (r : Rect) (at p : Point) → holds r p ≡ true → holds (moved r at) (carried p r.min at) ≡ true
unfolding moved
holds_moved r at p h =
    let b = bounds_of r p h in
    holds_from (record { min = at; max = carried r.max r.min at }) (carried p r.min at) (record { left = omega (arith, ints, b.left); right = omega (arith, ints, b.right); top = omega (arith, ints, b.top); bottom = omega (arith, ints, b.bottom) })

moved_points : (r : Rect) (at : Point) → HasPoints r → HasPoints (moved r at)
unfolding moved
moved_points r at points = record { across = omega (arith, ints, points.across); down = omega (arith, ints, points.down) }

moved_lies : (r : Rect) (at : Point) → LiesAt r at → LiesIn (moved r at)
moved_lies r at lies p h =
    let q = carried p at r.min in
    let back = carried_back p at r.min in
    ap (holds cell) (sym back) ∙ lies q (moved_holds r at q (ap (holds (moved r at)) back ∙ h))

pub carried_corner : (r : Rect) (at : Point) → HasPoints r → LiesAt r at → holds cell at ≡ true
unfolding moved
carried_corner r at points lies = corner_in (moved r at) (moved_points r at points) (moved_lies r at lies)

-- its size is the same
same_width : (r : Rect) (at : Point) → HasPoints r → width (moved r at) ≡ width r
unfolding moved
same_width r at points =
    let a = distance_is r.min.x r.max.x (omega (arith, ints, points.across)) in
    let b = distance_is at.x (carried r.max r.min at).x (omega (arith, ints, points.across)) in
    omega (arith, ints, a, b)

same_height : (r : Rect) (at : Point) → HasPoints r → height (moved r at) ≡ height r
unfolding moved
same_height r at points =
    let a = distance_is r.min.y r.max.y (omega (arith, ints, points.down)) in
    let b = distance_is at.y (carried r.max r.min at).y (omega (arith, ints, points.down)) in
    omega (arith, ints, a, b)

pub carried_rows : (r : Rect) (at : Point) → HasPoints r → LiesAt r at → HasRows r (place_of at) 32 1024
unfolding moved
carried_rows r at points lies =
    let there = rows_fit (moved r at) (moved_points r at points) (moved_lies r at lies) in
    let wide = same_width r at points in
    let high = same_height r at points in
    record {
      narrow = omega (arith, there.narrow, wide);
      fits = λ row below. omega (arith, there.fits row (omega (arith, below, high)), wide);
    }

pub carried_place : (r : Rect) (at p : Point) → HasPoints r → LiesAt r at → holds r p ≡ true → number_in r (place_of at) 32 p ≡ place_of (carried p r.min at)
unfolding moved
carried_place r at p points lies h =
    let q = carried p r.min at in
    let b = bounds_of r p h in
    let x : distance at.x q.x ≡ distance r.min.x p.x =
    (let a = distance_is r.min.x p.x b.left in let d = distance_is at.x q.x (omega (arith, ints, b.left)) in omega (arith, ints, a, d)) in
    let y : distance at.y q.y ≡ distance r.min.y p.y =
    (let a = distance_is r.min.y p.y b.top in let d = distance_is at.y q.y (omega (arith, ints, b.top)) in omega (arith, ints, a, d)) in
    (λ i. place_of at + sym y i * 32 + sym x i)
    ∙ place_in (moved r at) q (carried_corner r at points lies) (holds_moved r at p h) (lies p h)
