use Rattle.std.proofs.Common.{◌≡◌, ◌∙◌, ◌+◌, ◌-◌, ◌*◌, ◌/◌, ◌%◌, ◌≤◌, ℕ, pos, w64, to_z, min, sym, ap, arith}
use Rattle.std.proofs.lemmas.Int.{ints, to_z-of_z, to_z_pos}
use Rattle.r9_geom.specs.declared.Point.{Point}
use Rattle.r9_geom.specs.Geometry.{distance, holds, strip}
use Rattle.r9_geom.proofs.GeometryLemmas.{bounds_of}
use Rattle.r9_plane.specs.Pixels.{along}
use Rattle.model_kept.specs.Cells.{cell_of, in_cell}
use Rattle.r9_cells.proofs.Places.{cell_along, in_cell_along, strip_within}
use Rattle.r9_cells.proofs.runs.run_of.Goals as goal
use Rattle.r9_cells.proofs.runs.run_of.Goals.{After-distance-row}

pub distance-row-requires : goal.distance-row-requires
distance-row-requires c = let b = bounds_of c.args.r.now c.args.p c.requires.inside in grind (arith, ints, to_z-of_z)

pub cells_across-across-requires-clause-ordered : goal.cells_across-across-requires-clause-ordered
cells_across-across-requires-clause-ordered c =
    let b = bounds_of c.args.r.now c.args.p c.requires.inside in
    record { across = omega (arith, ints, b.left, b.right); down = omega (arith, ints, b.top, b.bottom) }

column_is : (c : After-distance-row) → c.distance-column.result ≡ distance c.args.r.now.min.x c.args.p.x
column_is c = grind (arith, to_z-of_z)

row_is : (c : After-distance-row) → c.distance-row.result ≡ distance c.args.r.now.min.y c.args.p.y
row_is c = grind (arith, to_z-of_z)

-- the cell and the point in it as the code computes them
number_is : (c : After-distance-row) → c.distance-row.result / 32 * c.cells_across-across.result + c.distance-column.result / 32 ≡ cell_of c.args.r.now c.args.p
number_is c =
    λ i. row_is c i / 32 * c.cells_across-across.ensures.value i + column_is c i / 32

point_is : (c : After-distance-row) → in_cell c.args.r.now c.args.p ≡ record { x = to_z w64 (c.distance-column.result % 32); y = to_z w64 (c.distance-row.result % 32) }
point_is c =
    let column : to_z w64 (c.distance-column.result % 32) ≡ pos (c.distance-column.result % 32) = to_z_pos w64 (c.distance-column.result % 32) (omega arith) in
    let row : to_z w64 (c.distance-row.result % 32) ≡ pos (c.distance-row.result % 32) = to_z_pos w64 (c.distance-row.result % 32) (omega arith) in
    sym (λ i. record { x = (column ∙ ap (λ n. pos (n % 32)) (column_is c)) i; y = (row ∙ ap (λ n. pos (n % 32)) (row_is c)) i })

pub overflow_mul-result : goal.overflow_mul-result
overflow_mul-result c = omega (arith, number_is ((goal.at.overflow_mul-result c).After-distance-row), c.requires.small)

pub overflow_add-result : goal.overflow_add-result
overflow_add-result c = omega (arith, number_is ((goal.at.overflow_add-result c).After-distance-row), c.requires.small)

-- the run ends within its row of the cell
ends : (c : After-distance-row) (n len : ℕ) → len ≡ min n (32 - c.distance-column.result % 32) → distance c.args.r.now.min.x c.args.p.x % 32 + len ≤ 32
ends c n len is = omega (arith, column_is c, is)

pub returns-clause-cell : goal.returns-clause-cell
returns-clause-cell c k below =
    let now = (goal.at.returns-clause-cell c).After-distance-row in
    cell_along c.args.r.now c.args.p k c.requires.inside (omega (arith, ends now c.args.n c.min.result c.min.ensures, below)) ∙ sym (number_is now)

pub returns-clause-at : goal.returns-clause-at
returns-clause-at c k below =
    let now = (goal.at.returns-clause-at c).After-distance-row in
    in_cell_along c.args.r.now c.args.p k c.requires.inside (omega (arith, ends now c.args.n c.min.result c.min.ensures, below)) ∙ ap (λ p. along p k) (point_is now)

pub returns-clause-within : goal.returns-clause-within
returns-clause-within c q h =
    let now = (goal.at.returns-clause-within c).After-distance-row in
    let r = c.args.r.now in
    let p = c.args.p in
    strip_within (distance r.min.x p.x % 32) (distance r.min.y p.y % 32) c.min.result q (ends now c.args.n c.min.result c.min.ensures) (omega arith)
    (ap (λ (at : Point). holds (strip at c.min.result) q) (point_is now) ∙ h)
