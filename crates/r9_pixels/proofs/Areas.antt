-- Pixels of a rectangle in the tiles of a window, as they are read and written.
use Rattle.std.proofs.Common.{◌≡◌, ◌≢◌, ◌∙◌, ℕ, ◌+◌, ◌*◌, ◌/◌, ◌%◌, ◌^◌, ◌<◌, ◌≤◌, Bool, true, false, List, Option, Some, None, pos, ◌+ℤ◌, ◌-ℤ◌, ◌≤ℤ◌, ℤ, ⊎_elim, mul_comm, refl, subst, sym, ap, arith}
use Rattle.std.specs.Prelude.{◌||◌, int_le, if◌then◌else◌}
use Rattle.std.specs.Option.{option_map_or}
use Rattle.std.proofs.lemmas.Bool.{cases_Bool, cases_lt, false≢true, or_cases, or_parts}
use Rattle.std.proofs.lemmas.Int.{ints}
use Rattle.std.proofs.lemmas.Nat.{div_below, div-mul-add, mod_below, mod-mul-add, mul-add-lt}
use Rattle.r9_geom.specs.declared.Point.{Point}
use Rattle.r9_geom.specs.declared.Rect.{Rect}
use Rattle.r9_geom.specs.Geometry.{area_of, at_min, carried, distance, height, holds, is_empty, point_at, width, HasPoints, IsOrdered, IsRectNear}
use Rattle.r9_geom.proofs.GeometryLemmas.{bounds_of, cell_of, corner, distance_is, holds_from, int_le_false, point_holds, same_point}
use Rattle.model_pixel.specs.Channels.{depth}
use Rattle.model_kept.specs.Keeping.{own, Place}
use Rattle.r9_cells.specs.Cells.{all_rows, cell_pixel, place_pixel}
use Rattle.r9_cells.specs.declared.table.Cells.{Cells}
use Rattle.r9_cells.specs.Rows.{cell_place, has_tile, CellPlace}
use Rattle.r9_cells.proofs.Places.{place_injective, tile_parts}
use Rattle.r9_pixels.specs.declared.own.Extent.{Extent}
use Rattle.r9_pixels.specs.declared.own.Own.{Own}
use Rattle.r9_pixels.specs.declared.own.Own.TheVariants.{Whole, Hidden}
use Rattle.r9_pixels.specs.Owns.{has_in, kept_in, own_at, IsWithinBits}
use Rattle.r9_pixels.proofs.Owning.{by_search, extent_is, is_place, place_true, true_place}

-- a rectangle that is not empty has its corner
pub solid_corner : (r : Rect) → is_empty r ≡ false → holds r r.min ≡ true
solid_corner r some =
    let parts = or_parts (int_le r.max.x r.min.x) (int_le r.max.y r.min.y) some in
    corner r (int_le_false r.max.x r.min.x parts.0) (int_le_false r.max.y r.min.y parts.1)

-- and an empty one has no points
no_distance : (a b : ℤ) → a ≤ℤ b → int_le b a ≡ true → distance a b ≡ 0
no_distance a b ordered h = let d = distance_is a b ordered in let le : b ≤ℤ a = grind (arith, ints) in omega (arith, ints, d, le)

pub empty_area : (r : Rect) → IsOrdered r → is_empty r ≡ true → area_of r ≡ 0
empty_area r ordered none =
    ⊎_elim
    (λ (h : int_le r.max.x r.min.x ≡ true). ap (λ n. n * height r) (no_distance r.min.x r.max.x ordered.across h) ∙ omega arith)
    (λ (h : int_le r.max.y r.min.y ≡ true). ap (λ n. width r * n) (no_distance r.min.y r.max.y ordered.down h) ∙ omega arith)
    (or_cases (int_le r.max.x r.min.x) (int_le r.max.y r.min.y) none)

-- one point of a rectangle passes a test, or none
pub by_points : {C : Type 0} (r : Rect) (test : Point → Bool) → ((p : Point) → holds r p ≡ true → test p ≡ true → C) → (((p : Point) → holds r p ≡ true → test p ≡ false) → C) → C
by_points r test found missed =
    by_search (height r * width r) (λ k. test (at k))
    (λ k below e. found (at k) (inside k below) e)
    (λ none. missed (λ p h.
    let here = cell_of r p h in
    let column = distance r.min.x p.x in
    let row = distance r.min.y p.y in
    let k = row * width r + column in
    let below : k < height r * width r = subst (λ (n : ℕ). k < n) (mul_comm (width r) (height r)) (mul-add-lt row (width r) column (height r) here.row here.column) in
    let across : k % width r ≡ column = mod-mul-add row (width r) column here.column in
    let down : k / width r ≡ row = div-mul-add row (width r) column here.column in
    let is : at k ≡ p = same_point (at k) p (ap (λ n. r.min.x +ℤ pos n) across ∙ here.left) (ap (λ n. r.min.y +ℤ pos n) down ∙ here.top) in
    ap test (sym is) ∙ none k below))
  where
    at : ℕ → Point
    at k = point_at r (k % width r) (k / width r)

    inside : (k : ℕ) → k < height r * width r → holds r (at k) ≡ true
    inside k below =
        let some : 0 < width r = ⊎_elim (λ (e : 0 < width r). e) (λ (e : width r ≤ 0). absurd (let none : width r ≡ 0 = omega (arith, e) in let flat = ap (λ n. height r * n) none in omega (arith, below, flat))) (cases_lt 0 (width r)) in
        point_holds r (k % width r) (k / width r) (mod_below k (width r) some) (div_below k (width r) (height r) some below)

-- tiles of a window were written at the points of a rectangle
pub record IsTilesWritten (i : ℕ) (r block : Rect) (value : Point → ℕ) (old new : Cells) : Type 0 where
  pub at : (p : Point) → holds block p ≡ true → place_pixel new (cell_place i r p) ≡ value p
  pub others : (place : CellPlace) → ((p : Point) → holds block p ≡ true → place ≢ cell_place i r p) → place_pixel new place ≡ place_pixel old place

abbrev pub HasTiles : Cells → ℕ → Rect → Rect → Type 0
HasTiles cells i r block = (p : Point) → holds block p ≡ true → has_tile (all_rows cells) i r p ≡ true

-- what a window keeps at a point that has a tile
pub tiles_kept : (owns : List (Option Own)) (old cells : Cells) (i : ℕ) (extent : Extent) (p : Point) → own_at owns i ≡ Some (Hidden extent) → has_tile (all_rows old) i extent.r p ≡ true → option_map_or (kept_in cells i p) (own_at owns i) 0 ≡ place_pixel cells (cell_place i extent.r p)
tiles_kept owns old cells i extent p hidden has =
    ap (λ o. option_map_or (kept_in cells i p) o 0) hidden
    ∙ ap (λ b. if b then place_pixel cells (cell_place i extent.r p) else 0) (tile_parts (all_rows old) i extent.r p has).0

-- and elsewhere all is kept as before
pub tiles_others : (owns : List (Option Own)) (old new : Cells) (i : ℕ) (extent : Extent) (block : Rect) (value : Point → ℕ) → own_at owns i ≡ Some (Hidden extent) → HasTiles old i extent.r block → IsTilesWritten i extent.r block value old new → (place : Place) → ((p : Point) → holds block p ≡ true → place ≢ own i p) → option_map_or (kept_in new place.image place.at) (own_at owns place.image) 0 ≡ option_map_or (kept_in old place.image place.at) (own_at owns place.image) 0
tiles_others owns old new i own_extent block value hidden has written place apart = by_own (own_at owns place.image) refl
  where
    by_own : (o : Option Own) → own_at owns place.image ≡ o → option_map_or (kept_in new place.image place.at) o 0 ≡ option_map_or (kept_in old place.image place.at) o 0
    by_own None is = refl
    by_own (Some (Whole watched)) is = refl
    by_own (Some (Hidden extent)) is =
        ⊎_elim
        (λ (inside : holds extent.r place.at ≡ true).
        ap (λ b. if b then place_pixel new (cell_place place.image extent.r place.at) else 0) inside
        ∙ written.others (cell_place place.image extent.r place.at)
        (λ p h same.
        let image : place.image ≡ i = ap (λ (q : CellPlace). q.image) same in
        let one : extent ≡ own_extent = extent_is extent own_extent (sym is ∙ ap (own_at owns) image ∙ hidden) in
        let there = (tile_parts (all_rows old) i own_extent.r p (has p h)).0 in
        let here : holds own_extent.r place.at ≡ true = ap (λ (e : Extent). holds e.r place.at) (sym one) ∙ inside in
        let both : cell_place i own_extent.r place.at ≡ cell_place i own_extent.r p = sym (λ j. cell_place (image j) (one j).r place.at) ∙ same in
        let at = place_injective i own_extent.r place.at p here there both in
        apart p h (λ j. record { image = image j; at = at j }))
        ∙ sym (ap (λ b. if b then place_pixel old (cell_place place.image extent.r place.at) else 0) inside))
        (λ (outside : holds extent.r place.at ≡ false).
        ap (λ b. if b then place_pixel new (cell_place place.image extent.r place.at) else 0) outside
        ∙ sym (ap (λ b. if b then place_pixel old (cell_place place.image extent.r place.at) else 0) outside))
        (cases_Bool (holds extent.r place.at))

-- with pixels of no more bits
pub tiles_bounded : (owns : List (Option Own)) (old new : Cells) (i : ℕ) (extent : Extent) (block : Rect) (value : Point → ℕ) → own_at owns i ≡ Some (Hidden extent) → IsTilesWritten i extent.r block value old new → ((p : Point) → holds block p ≡ true → value p < 2 ^ depth extent.chan) → IsWithinBits owns old → IsWithinBits owns new
tiles_bounded owns old new i own_extent block value hidden written small bounded j l q extent is =
    by_points block (λ p. is_place place (there p))
    (λ p h e.
    let same = place_true place (there p) e in
    let image : j ≡ i = ap (λ (a : CellPlace). a.image) same in
    let one : own_extent ≡ extent = extent_is own_extent extent (sym hidden ∙ ap (own_at owns) (sym image) ∙ is) in
    let value_is : cell_pixel new j l q ≡ value p = ap (place_pixel new) same ∙ written.at p h in
    let bits = ap (λ (e : Extent). 2 ^ depth e.chan) one in
    omega (arith, value_is, bits, small p h))
    (λ none.
    let still : cell_pixel new j l q ≡ cell_pixel old j l q = written.others place (λ p h same. false≢true (sym (none p h) ∙ true_place place (there p) same)) in
    omega (arith, still, bounded j l q extent is))
  where
    place : CellPlace
    place = record { image = j; cell = l; at = q }

    there : Point → CellPlace
    there p = cell_place i own_extent.r p

-- ---- a rectangle that comes to stand elsewhere

pub carried_back : (p a b : Point) → carried (carried p a b) b a ≡ p
carried_back p a b = same_point (carried (carried p a b) b a) p (omega (arith, ints)) (omega (arith, ints))

pub carried_min : (a b : Point) → carried a a b ≡ b
carried_min a b = same_point (carried a a b) b (omega (arith, ints)) (omega (arith, ints))

pub moved_points : (r : Rect) (at : Point) → HasPoints r → HasPoints (at_min r at)
moved_points r at points = record { across = omega (arith, ints, points.across); down = omega (arith, ints, points.down) }

pub moved_ordered : (r : Rect) (at : Point) → IsOrdered r → IsOrdered (at_min r at)
moved_ordered r at ordered = record { across = omega (arith, ints, ordered.across); down = omega (arith, ints, ordered.down) }

pub moved_back : (r : Rect) (at q : Point) → holds (at_min r at) q ≡ true → holds r (carried q at r.min) ≡ true
moved_back r at q h =
    let b = bounds_of (at_min r at) q h in
    holds_from r (carried q at r.min) (record { left = omega (arith, ints, b.left); right = omega (arith, ints, b.right); top = omega (arith, ints, b.top); bottom = omega (arith, ints, b.bottom) })

pub moved_holds : (r : Rect) (at p : Point) → holds r p ≡ true → holds (at_min r at) (carried p r.min at) ≡ true
moved_holds r at p h =
    let b = bounds_of r p h in
    holds_from (at_min r at) (carried p r.min at) (record { left = omega (arith, ints, b.left); right = omega (arith, ints, b.right); top = omega (arith, ints, b.top); bottom = omega (arith, ints, b.bottom) })

-- a rectangle within one that is near is near
pub part_near : (whole r : Rect) → HasPoints r → ((p : Point) → holds r p ≡ true → holds whole p ≡ true) → IsRectNear whole → IsRectNear r
part_near whole r points lies near =
    let last : Point = record { x = r.max.x -ℤ pos 1; y = r.max.y -ℤ pos 1 } in
    let first = bounds_of whole r.min (lies r.min (corner r points.across points.down)) in
    let end = bounds_of whole last (lies last (holds_from r last (record { left = omega (arith, ints, points.across); right = omega (arith, ints); top = omega (arith, ints, points.down); bottom = omega (arith, ints) }))) in
    record {
      min = record {
        left = omega (arith, ints, first.left, near.min.left);
        right = omega (arith, ints, first.right, near.max.right);
        top = omega (arith, ints, first.top, near.min.top);
        bottom = omega (arith, ints, first.bottom, near.max.bottom);
      };
      max = record {
        left = omega (arith, ints, end.left, near.min.left);
        right = omega (arith, ints, end.right, near.max.right);
        top = omega (arith, ints, end.top, near.min.top);
        bottom = omega (arith, ints, end.bottom, near.max.bottom);
      };
    }

-- the same rows of cells have the same places
pub tiles_has : (owns : List (Option Own)) (old new : Cells) → all_rows new ≡ all_rows old → (place : Place) → option_map_or (has_in new place.image place.at) (own_at owns place.image) false ≡ option_map_or (has_in old place.image place.at) (own_at owns place.image) false
tiles_has owns old new same place = by_own (own_at owns place.image)
  where
    by_own : (o : Option Own) → option_map_or (has_in new place.image place.at) o false ≡ option_map_or (has_in old place.image place.at) o false
    by_own None = refl
    by_own (Some (Whole watched)) = refl
    by_own (Some (Hidden extent)) = ap (λ rows. has_tile rows place.image extent.r place.at) same
