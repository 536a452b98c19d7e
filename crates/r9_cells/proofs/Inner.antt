-- A rectangle of a window that lies in one of its cells, and where it lies in the tile of that.
use Rattle.std.proofs.Common.{◌≡◌, ◌≢◌, ◌∙◌, ℕ, ℤ, ◌+◌, ◌*◌, ◌/◌, ◌%◌, ◌^◌, ◌<◌, ◌-ℤ◌, ◌≤ℤ◌, pos, true, Some, sym, ap, arith}
use Rattle.std.specs.Prelude.{is_some}
use Rattle.std.specs.Option.{option_map_or}
use Rattle.std.proofs.lemmas.Int.{ints}
use Rattle.std.proofs.lemmas.Nat.{same_from_place}
use Rattle.r9_geom.specs.declared.Point.{Point}
use Rattle.r9_geom.specs.declared.Rect.{Rect}
use Rattle.r9_geom.specs.Geometry.{at_min, carried, distance, holds, HasPoints, IsOrdered, IsRectNear}
use Rattle.r9_geom.proofs.GeometryLemmas.{bounds_of, corner, distance_is, holds_from, same_point, strip_distance}
use Rattle.r9_plane.specs.Blocks.{number_in, HasRows}
use Rattle.r9_store.specs.Tiles.{cell, place_of, pixel}
use Rattle.r9_plane.proofs.Shifts.{height-at_min, holds-at_min, width-at_min}
use Rattle.r9_store.proofs.Blocks.{carried_back, carried_place, carried_rows}
use Rattle.model_kept.specs.Cells.{cell_of, cells_across, in_cell}
use Rattle.r9_cells.specs.Blocks.{IsInCell}
use Rattle.r9_cells.specs.Cells.{all_rows, cell_pixel, place_pixel, tiles_in}
use Rattle.r9_cells.specs.declared.table.Cells.{Cells}
use Rattle.r9_cells.specs.Rows.{cell_at, cell_place, has_tile, CellPlace}
use Rattle.r9_cells.proofs.Bands.{first_point, LiesIn}
use Rattle.r9_cells.proofs.Changed.{cell_inside}
use Rattle.r9_cells.proofs.Places.{column_below, row_small, tile_parts}
use Rattle.r9_cells.proofs.Sets.{IsSet}

-- a point of it is in the same cell, and so far from its first point
pub record StandsIn (r part : Rect) (p : Point) : Type 0 where
  pub cell : cell_of r p ≡ cell_of r part.min
  pub across : distance r.min.x p.x % 32 ≡ distance r.min.x part.min.x % 32 + distance part.min.x p.x
  pub down : distance r.min.y p.y % 32 ≡ distance r.min.y part.min.y % 32 + distance part.min.y p.y

further : (low at z : ℤ) → low ≤ℤ at → at ≤ℤ z → distance low z ≡ distance low at + distance at z
further low at z first past =
    let a = distance_is low at first in
    let b = distance_is at z past in
    strip_distance (record { x = low; y = low }) (record { x = z; y = z }) (distance low at + distance at z) (omega (arith, ints, a, b))

pub stands_in : (r part : Rect) (p : Point) → LiesIn r part → IsInCell r part → holds part p ≡ true → StandsIn r part p
stands_in r part p lies one h =
    let b = bounds_of part p h in
    let first_in = lies.inside part.min (first_point r part lies) in
    let p_in = lies.inside p h in
    let first = bounds_of r part.min first_in in
    let parts = same_from_place (distance r.min.y p.y / 32) (distance r.min.x p.x / 32) (distance r.min.y part.min.y / 32) (distance r.min.x part.min.x / 32) (cells_across r) (column_below r p p_in) (column_below r part.min first_in) (one p h) in
    let x = further r.min.x part.min.x p.x first.left b.left in
    let y = further r.min.y part.min.y p.y first.top b.top in
    record {
      cell = one p h;
      across = omega (arith, x, parts.1);
      down = omega (arith, y, parts.0);
    }

-- a rectangle of which each point has a tile
pub has_lies : (cells : Cells) (i : ℕ) (r part : Rect) → IsRectNear part → IsOrdered part → HasPoints part → ((p : Point) → holds part p ≡ true → has_tile (all_rows cells) i r p ≡ true) → LiesIn r part
has_lies cells i r part near ordered some has = record {
  near = near;
  ordered = ordered;
  some = some;
  inside = λ p h. (tile_parts (all_rows cells) i r p (has p h)).0;
}

-- the tile of its first point
pub first_tile : (cells : Cells) (i : ℕ) (r part : Rect) → HasPoints part → ((p : Point) → holds part p ≡ true → has_tile (all_rows cells) i r p ≡ true) → is_some (cell_at (all_rows cells) i (cell_of r part.min)) ≡ true
first_tile cells i r part some has = (tile_parts (all_rows cells) i r part.min (has part.min (corner part some.across some.down))).1

pub first_small : (cells : Cells) (i : ℕ) (r part : Rect) → HasPoints part → ((p : Point) → holds part p ≡ true → has_tile (all_rows cells) i r p ≡ true) → cell_of r part.min < 2 ^ 63
first_small cells i r part some has =
    row_small cells.rows.items i (cell_of r part.min) (cell_inside (all_rows cells) i (cell_of r part.min) (first_tile cells i r part some has)).1

-- so it is carried into the tile
pub cell_carried : (r part : Rect) (p : Point) → LiesIn r part → IsInCell r part → holds part p ≡ true → in_cell r p ≡ carried p part.min (in_cell r part.min)
cell_carried r part p lies one h =
    let b = bounds_of part p h in
    let s = stands_in r part p lies one h in
    let x = distance_is part.min.x p.x b.left in
    let y = distance_is part.min.y p.y b.top in
    same_point (in_cell r p) (carried p part.min (in_cell r part.min)) (omega (arith, ints, x, s.across)) (omega (arith, ints, y, s.down))

pub in_tile : (r : Rect) (p : Point) → holds cell (in_cell r p) ≡ true
in_tile r p = holds_from cell (in_cell r p) (record { left = omega (arith, ints); right = omega (arith, ints); top = omega (arith, ints); bottom = omega (arith, ints) })

pub lies_at : (r part : Rect) → LiesIn r part → IsInCell r part → (p : Point) → holds part p ≡ true → holds cell (carried p part.min (in_cell r part.min)) ≡ true
lies_at r part lies one p h = ap (holds cell) (sym (cell_carried r part p lies one h)) ∙ in_tile r p

pub tile_rows : (r part : Rect) → LiesIn r part → IsInCell r part → HasRows part (place_of (in_cell r part.min)) 32 1024
tile_rows r part lies one = carried_rows part (in_cell r part.min) lies.some (lies_at r part lies one)

pub tile_number : (r part : Rect) (p : Point) → LiesIn r part → IsInCell r part → holds part p ≡ true → number_in part (place_of (in_cell r part.min)) 32 p ≡ place_of (in_cell r p)
tile_number r part p lies one h =
    carried_place part (in_cell r part.min) p lies.some (lies_at r part lies one) h ∙ ap place_of (sym (cell_carried r part p lies one h))

-- what the tile of its cell keeps for a point
pub tile_pixel : (cells : Cells) (i : ℕ) (r part : Rect) (t : ℕ) (p : Point) → IsInCell r part → holds part p ≡ true → cell_at (all_rows cells) i (cell_of r part.min) ≡ Some t → place_pixel cells (cell_place i r p) ≡ pixel (tiles_in cells) t (in_cell r p)
tile_pixel cells i r part t p one h is =
    ap (λ k. option_map_or (λ n. pixel (tiles_in cells) n (in_cell r p)) (cell_at (all_rows cells) i k) 0) (one p h)
    ∙ ap (λ o. option_map_or (λ n. pixel (tiles_in cells) n (in_cell r p)) o 0) is

-- its place, as it is told of by a point of the tile
pub place_in_cell : (i : ℕ) (r part : Rect) (p : Point) → LiesIn r part → IsInCell r part → holds part p ≡ true → cell_place i r p ≡ record { image = i; cell = cell_of r part.min; at = carried p part.min (in_cell r part.min) }
place_in_cell i r part p lies one h = λ j. record { image = i; cell = one p h j; at = cell_carried r part p lies one h j }

-- ---- the rectangle where it stands from another point on

pub carried_through : (p a b c : Point) → carried (carried p a b) b c ≡ carried p a c
carried_through p a b c = same_point (carried (carried p a b) b c) (carried p a c) (omega (arith, ints)) (omega (arith, ints))

-- a point of it comes from a point of the rectangle
pub from_there : (part : Rect) (at q : Point) → holds (at_min part at) q ≡ true → holds part (carried q at part.min) ≡ true
from_there part at q h = sym (holds-at_min part at q) ∙ h

pub to_there : (part : Rect) (at p : Point) → holds part p ≡ true → holds (at_min part at) (carried p part.min at) ≡ true
to_there part at p h = holds-at_min part at (carried p part.min at) ∙ ap (holds part) (carried_back p part.min at) ∙ h

pub points_there : (part : Rect) (at : Point) → HasPoints part → HasPoints (at_min part at)
points_there part at some = record { across = omega (arith, ints, some.across); down = omega (arith, ints, some.down) }

pub rows_there : (part : Rect) (at : Point) (first across count : ℕ) → HasRows part first across count → HasRows (at_min part at) first across count
rows_there part at first across count rows =
    let w = width-at_min part at in
    let h = height-at_min part at in
    record {
      narrow = omega (arith, w, rows.narrow);
      fits = λ row below. omega (arith, w, rows.fits row (omega (arith, below, h)));
    }

pub number_there : (part : Rect) (at p : Point) (first across : ℕ) → holds part p ≡ true → number_in (at_min part at) first across (carried p part.min at) ≡ number_in part first across p
number_there part at p first across h =
    let b = bounds_of part p h in
    let x = distance_is part.min.x p.x b.left in
    let y = distance_is part.min.y p.y b.top in
    let column : distance at.x (carried p part.min at).x ≡ distance part.min.x p.x = strip_distance (record { x = at.x; y = at.x }) (record { x = (carried p part.min at).x; y = at.x }) (distance part.min.x p.x) (omega (arith, ints, x)) in
    let row : distance at.y (carried p part.min at).y ≡ distance part.min.y p.y = strip_distance (record { x = at.y; y = at.y }) (record { x = (carried p part.min at).y; y = at.y }) (distance part.min.y p.y) (omega (arith, ints, y)) in
    (λ j. first + row j * across + column j)

pub there_in_tile : (r part : Rect) (q : Point) → LiesIn r part → IsInCell r part → holds (at_min part (in_cell r part.min)) q ≡ true → holds cell q ≡ true
there_in_tile r part q lies one h =
    let at = in_cell r part.min in
    ap (holds cell) (sym (carried_back q at part.min)) ∙ lies_at r part lies one (carried q at part.min) (from_there part at q h)

-- what was put into the tile at the points of the rectangle there was set at the places of its own points
pub tile_set : (cells new : Cells) (i : ℕ) (r part : Rect) (k : ℕ) (s : Rect) (value : Point → ℕ) → LiesIn r part → IsInCell r part → k ≡ cell_of r part.min → s ≡ at_min part (in_cell r part.min) → ((q : Point) → holds s q ≡ true → cell_pixel new i k q ≡ value q) → ((place : CellPlace) → ((q : Point) → holds s q ≡ true → place ≢ record { image = i; cell = k; at = q }) → place_pixel new place ≡ place_pixel cells place) → IsSet CellPlace part (cell_place i r) (λ p. value (carried p part.min (in_cell r part.min))) (place_pixel cells) (place_pixel new)
tile_set cells new i r part k s value lies one k_is s_is put other =
    let at = in_cell r part.min in
    record {
      written = λ p h.
          let q = carried p part.min at in
          ap (place_pixel new) (place_in_cell i r part p lies one h)
          ∙ ap (λ n. cell_pixel new i n q) (sym k_is)
          ∙ put q (ap (λ (t : Rect). holds t q) s_is ∙ to_there part at p h);
      others = λ place apart.
          other place
          (λ q h same.
          let p = carried q at part.min in
          let inside = from_there part at q (ap (λ (t : Rect). holds t q) (sym s_is) ∙ h) in
          let back : carried p part.min at ≡ q = carried_back q at part.min in
          let there : cell_place i r p ≡ record { image = i; cell = k; at = q } = place_in_cell i r part p lies one inside ∙ (λ j. record { image = i; cell = sym k_is j; at = back j }) in
          apart p inside (same ∙ sym there));
    }

-- a rectangle with points within a near one is near
pub near_within : (whole part : Rect) → IsRectNear whole → HasPoints part → ((p : Point) → holds part p ≡ true → holds whole p ≡ true) → IsRectNear part
near_within whole part near some inside =
    let first = bounds_of whole part.min (inside part.min (holds_from part part.min (record { left = omega (arith, ints); right = some.across; top = omega (arith, ints); bottom = some.down }))) in
    let last : Point = record { x = part.max.x -ℤ pos 1; y = part.max.y -ℤ pos 1 } in
    let end = bounds_of whole last (inside last (holds_from part last (record { left = omega (arith, ints, some.across); right = omega (arith, ints); top = omega (arith, ints, some.down); bottom = omega (arith, ints) }))) in
    record {
      min = record {
        left = omega (arith, ints, first.left, near.min.left);
        right = omega (arith, ints, first.right, near.max.right);
        top = omega (arith, ints, first.top, near.min.top);
        bottom = omega (arith, ints, first.bottom, near.max.bottom);
      };
      max = record {
        left = omega (arith, ints, first.left, near.min.left, some.across);
        right = omega (arith, ints, end.right, near.max.right);
        top = omega (arith, ints, first.top, near.min.top, some.down);
        bottom = omega (arith, ints, end.bottom, near.max.bottom);
      };
    }
