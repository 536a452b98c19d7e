use Rattle.std.proofs.Common.{◌+ℤ◌, of_z, pos, to_z, w64, arith}
use Rattle.std.proofs.lemmas.Int.{ints}
use Rattle.r9_geom.specs.declared.Point.{Point}
use Rattle.r9_cells.proofs.Walks.{walk_down, walk_on}
use Rattle.r9_cells.proofs.hiding.Walk.step.Goals as goal

pub returns-then-self : goal.returns-then-self
returns-then-self c r to k ordered below at =
    let walk = c.args.self.now in
    let next : Point = record { x = to_z w64 (of_z w64 walk.place.min.x); y = to_z w64 (of_z w64 (to_z w64 (of_z w64 walk.at.y) +ℤ pos 32)) } in
    walk_down walk next r to k ordered below at (omega (arith, ints)) (omega (arith, ints)) (omega (arith, ints, c.if-self.true))

pub returns-else-self : goal.returns-else-self
returns-else-self c r to k ordered below at =
    let walk = c.args.self.now in
    let next : Point = record { x = to_z w64 (of_z w64 (to_z w64 (of_z w64 walk.at.x) +ℤ pos 32)); y = walk.at.y } in
    walk_on walk next r to k ordered below at (omega (arith, ints)) (omega (arith, ints)) (omega (arith, ints, c.if-self.false))
