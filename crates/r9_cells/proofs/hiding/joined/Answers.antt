use Rattle.std.proofs.Common.{◌≡◌, true, of_z, to_z, w64, arith}
use Rattle.std.proofs.lemmas.Int.{clamps, ints}
use Rattle.r9_geom.specs.declared.Rect.{Rect}
use Rattle.r9_geom.specs.Geometry.{is_inside}
use Rattle.r9_cells.proofs.Touching.{inside_through, spanned}
use Rattle.r9_cells.proofs.hiding.joined.Goals as goal

pub returns-clause-first : goal.returns-clause-first
returns-clause-first c =
    spanned c.args.a.now (to_z w64 (of_z w64 c.min.result)) (to_z w64 (of_z w64 c.min-2.result)) (to_z w64 (of_z w64 c.max.result)) (to_z w64 (of_z w64 c.max-2.result))
    (omega (arith, ints, clamps)) (omega (arith, ints, clamps)) (omega (arith, ints, clamps)) (omega (arith, ints, clamps))

pub returns-clause-second : goal.returns-clause-second
returns-clause-second c =
    spanned c.args.b.now (to_z w64 (of_z w64 c.min.result)) (to_z w64 (of_z w64 c.min-2.result)) (to_z w64 (of_z w64 c.max.result)) (to_z w64 (of_z w64 c.max-2.result))
    (omega (arith, ints, clamps)) (omega (arith, ints, clamps)) (omega (arith, ints, clamps)) (omega (arith, ints, clamps))

pub returns-clause-more : goal.returns-clause-more
returns-clause-more c part inside =
    let all : Rect = record { min = record { x = to_z w64 (of_z w64 c.min.result); y = to_z w64 (of_z w64 c.min-2.result) }; max = record { x = to_z w64 (of_z w64 c.max.result); y = to_z w64 (of_z w64 c.max-2.result) } } in
    let first : is_inside c.args.a.now all ≡ true =
    spanned c.args.a.now (to_z w64 (of_z w64 c.min.result)) (to_z w64 (of_z w64 c.min-2.result)) (to_z w64 (of_z w64 c.max.result)) (to_z w64 (of_z w64 c.max-2.result))
    (omega (arith, ints, clamps)) (omega (arith, ints, clamps)) (omega (arith, ints, clamps)) (omega (arith, ints, clamps)) in
    inside_through part c.args.a.now all inside first
