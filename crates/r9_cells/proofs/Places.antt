-- Where the points of an image lie in cells.
use Rattle.std.proofs.Common.{◌≡◌, ◌∙◌, ℕ, suc, zero, List, [], ◌∷◌, Option, length, ◌+◌, ◌*◌, ◌/◌, ◌%◌, ◌<◌, ◌≤◌, ◌^◌, pos, ◌+ℤ◌, true, refl, sym, ap, arith}
use Rattle.std.specs.Prelude.{is_some}
use Rattle.std.proofs.lemmas.Bool.{and_parts}
use Rattle.std.proofs.lemmas.Int.{ints}
use Rattle.std.proofs.lemmas.Nat.{same_from_place}
use Rattle.r9_geom.specs.declared.Point.{Point}
use Rattle.r9_geom.specs.declared.Rect.{Rect}
use Rattle.r9_geom.specs.Geometry.{distance, holds, strip, IsNear, IsRectNear}
use Rattle.r9_geom.proofs.GeometryLemmas.{bounds_of, cell_of as place_of, holds_from, same_point, strip_distance}
use Rattle.r9_plane.specs.Pixels.{along}
use Rattle.r9_locate.proofs.locate.Locating.{along-along}
use Rattle.r9_store.specs.Tiles.{cell}
use Rattle.model_kept.specs.Cells.{cell_of, cells_across, in_cell}
use Rattle.r9_cells.specs.declared.table.Row.{Row}
use Rattle.r9_cells.specs.Rows.{cell_at, cell_place, has_tile, row_at, rows_of, CellPlace}

-- points to the right of one
column_along : (r : Rect) (p : Point) (k : ℕ) → holds r p ≡ true → distance r.min.x (p.x +ℤ pos k) ≡ distance r.min.x p.x + k
column_along r p k h =
    let at = place_of r p h in
    strip_distance r.min (along p k) (distance r.min.x p.x + k) (omega (arith, ints, at.left))

pub cell_along : (r : Rect) (p : Point) (k : ℕ) → holds r p ≡ true → distance r.min.x p.x % 32 + k < 32 → cell_of r (along p k) ≡ cell_of r p
cell_along r p k h within =
    let there = column_along r p k h in
    let column : distance r.min.x (p.x +ℤ pos k) / 32 ≡ distance r.min.x p.x / 32 = omega (arith, there, within) in
    ap (λ c. distance r.min.y p.y / 32 * cells_across r + c) column

pub in_cell_along : (r : Rect) (p : Point) (k : ℕ) → holds r p ≡ true → distance r.min.x p.x % 32 + k < 32 → in_cell r (along p k) ≡ along (in_cell r p) k
in_cell_along r p k h within =
    let there = column_along r p k h in
    let column : distance r.min.x (p.x +ℤ pos k) % 32 ≡ distance r.min.x p.x % 32 + k = omega (arith, there, within) in
    same_point (in_cell r (along p k)) (along (in_cell r p) k) (omega (arith, ints, column)) refl

-- points side by side within a row of a cell lie within it
pub strip_within : (column row n : ℕ) (q : Point) → column + n ≤ 32 → row < 32 → holds (strip (record { x = pos column; y = pos row }) n) q ≡ true → holds cell q ≡ true
strip_within column row n q wide low h =
    let b = bounds_of (strip (record { x = pos column; y = pos row }) n) q h in
    holds_from cell q (record { left = omega (arith, ints, b.left); right = omega (arith, ints, b.right); top = omega (arith, ints, b.top); bottom = omega (arith, ints, b.bottom) })

-- a cell is not left of the first nor right of the last
pub column_below : (r : Rect) (p : Point) → holds r p ≡ true → distance r.min.x p.x / 32 < cells_across r
column_below r p h = let at = place_of r p h in omega (arith, at.column)

-- no two points have one place
pub place_injective : (i : ℕ) (r : Rect) (p q : Point) → holds r p ≡ true → holds r q ≡ true → cell_place i r p ≡ cell_place i r q → p ≡ q
place_injective i r p q in_p in_q same =
    let a = place_of r p in_p in
    let b = place_of r q in_q in
    let parts = same_from_place (distance r.min.y p.y / 32) (distance r.min.x p.x / 32) (distance r.min.y q.y / 32) (distance r.min.x q.x / 32) (cells_across r) (column_below r p in_p) (column_below r q in_q) (ap (λ (place : CellPlace). place.cell) same) in
    let x = ap (λ (place : CellPlace). place.at.x) same in
    let y = ap (λ (place : CellPlace). place.at.y) same in
    let column : distance r.min.x p.x ≡ distance r.min.x q.x = omega (arith, ints, parts.1, x) in
    let row : distance r.min.y p.y ≡ distance r.min.y q.y = omega (arith, ints, parts.0, y) in
    same_point p q
    (sym a.left ∙ ap (λ n. r.min.x +ℤ pos n) column ∙ b.left)
    (sym a.top ∙ ap (λ n. r.min.y +ℤ pos n) row ∙ b.top)

-- a point of a row that has a tile is near, and the row has not gone far
pub row_near : (r : Rect) (from : Point) (done : ℕ) → IsRectNear r → holds r (along from 0) ≡ true → holds r (along from done) ≡ true → IsNear from × (done ≤ 2 ^ 41)
row_near r from done near first here =
    let start = bounds_of r (along from 0) first in
    let end = bounds_of r (along from done) here in (
      record {
        left = omega (arith, ints, start.left, near.min.left);
        right = omega (arith, ints, start.right, near.max.right);
        top = omega (arith, ints, start.top, near.min.top);
        bottom = omega (arith, ints, start.bottom, near.max.bottom);
      },
      omega (arith, ints, start.left, near.min.left, end.right, near.max.right),
    )

-- the places of points side by side, from one that many on
pub run_places : (i c : ℕ) (r : Rect) (from start at : Point) (done len : ℕ) → start ≡ along from done → ((k : ℕ) → k < len → cell_of r (along start k) ≡ c) → ((k : ℕ) → k < len → in_cell r (along start k) ≡ along at k) → (k : ℕ) → k < len → cell_place i r (along from (done + k)) ≡ record { image = i; cell = c; at = along at k }
run_places i c r from start at done len start_is cell_is at_is k below =
    ap (cell_place i r) (sym (ap (λ p. along p k) start_is ∙ along-along from done k))
    ∙ λ j. record { image = i; cell = cell_is k below j; at = at_is k below j }

-- the cells of an image are numbered in a word
pub row_small : (rows : List Row) (i k : ℕ) → k < length (row_at (rows_of rows) i) → k < 2 ^ 63
row_small [] i k below = absurd (omega arith)
row_small (row ∷ rows) zero k below =
    let inside : k < length row.cells.items = below in
    omega (arith, inside, row.cells.ok.0, row.cells.ok.1, row.cells.small)
row_small (row ∷ rows) (suc i) k below = row_small rows i k below

-- where there is a tile, the point is in the rectangle and its cell has the tile
pub tile_parts : (rows : List (List (Option ℕ))) (i : ℕ) (r : Rect) (p : Point) → has_tile rows i r p ≡ true → (holds r p ≡ true) × (is_some (cell_at rows i (cell_of r p)) ≡ true)
tile_parts rows i r p has = let parts = and_parts (holds r p) (is_some (cell_at rows i (cell_of r p))) has in (parts.0, parts.1)
