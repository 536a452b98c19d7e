use Rattle.std.proofs.Common.{◌≡◌, ◌≤◌, ◌<ℤ◌, arith}
use Rattle.std.proofs.lemmas.Bool.Decides.{nat_tests}
use Rattle.std.proofs.lemmas.Int.{ints, to_z-of_z}
use Rattle.r9_geom.specs.Geometry.{distance}
use Rattle.r9_geom.proofs.GeometryLemmas.{distance_is}
use Rattle.r9_shown.proofs.blocks.is_before.Goals as goal

pub returns : goal.returns
returns c off =
    let above : c.args.low <ℤ c.args.at = omega (arith, ints, c.if-at-low.false) in
    let d = distance_is c.args.low c.args.at (omega (arith, ints, above)) in
    let e : c.distance.result ≡ distance c.args.low c.args.at = grind (arith, to_z-of_z) in
    let most : c.args.n ≤ c.distance.result = grind (arith, nat_tests) in
    omega (arith, ints, d, e, most)
