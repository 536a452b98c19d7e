use Rattle.std.proofs.Common.{arith}
use Rattle.std.proofs.lemmas.Int.{ints}
use Rattle.r9_geom.proofs.GeometryLemmas.{holds_from}
use Rattle.r9_geom.proofs.Point.reduced.Goals as goal

pub returns-clause-inside : goal.returns-clause-inside
returns-clause-inside c =
    holds_from c.args.r _ (record { left = omega (arith, ints); right = omega (arith, ints); top = omega (arith, ints); bottom = omega (arith, ints) })
