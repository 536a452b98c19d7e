use Rattle.std.proofs.Common.{◌≡◌, ◌+◌, ◌*◌, ◌/◌, arith}
use Rattle.std.proofs.lemmas.Int.{ints, to_z-of_z}
use Rattle.r9_geom.specs.Geometry.{distance}
use Rattle.r9_geom.proofs.GeometryLemmas.{bounds_of}
use Rattle.model_kept.specs.Cells.{cell_of}
use Rattle.r9_cells.proofs.blocks.cell_at.Goals as goal
use Rattle.r9_cells.proofs.blocks.cell_at.Goals.{After-cells_across}

pub cells_across-requires-clause-ordered : goal.cells_across-requires-clause-ordered
cells_across-requires-clause-ordered c =
    let b = bounds_of c.args.r.now c.args.p c.requires.inside in
    record { across = omega (arith, ints, b.left, b.right); down = omega (arith, ints, b.top, b.bottom) }

column_is : (c : After-cells_across) → c.distance-column.result ≡ distance c.args.r.now.min.x c.args.p.x
column_is c = grind (arith, to_z-of_z)

row_is : (c : After-cells_across) → c.distance-row.result ≡ distance c.args.r.now.min.y c.args.p.y
row_is c = grind (arith, to_z-of_z)

-- the cell as the code computes it
number_is : (c : After-cells_across) → c.distance-row.result / 32 * c.cells_across.result + c.distance-column.result / 32 ≡ cell_of c.args.r.now c.args.p
number_is c = λ i. row_is c i / 32 * c.cells_across.ensures.value i + column_is c i / 32

pub overflow_mul-result : goal.overflow_mul-result
overflow_mul-result c = omega (arith, number_is ((goal.at.overflow_mul-result c).After-cells_across), c.requires.small)

pub overflow_add-result : goal.overflow_add-result
overflow_add-result c = omega (arith, number_is ((goal.at.overflow_add-result c).After-cells_across), c.requires.small)

pub returns : goal.returns
returns c = number_is ((goal.at.returns c).After-cells_across)
