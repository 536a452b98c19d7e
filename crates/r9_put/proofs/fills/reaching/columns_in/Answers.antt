use Rattle.std.proofs.Common.{◌≡◌, sym, subst, arith}
use Rattle.std.proofs.lemmas.Int.{ints, to_z-of_z}
use Rattle.r9_geom.specs.Geometry.{distance}
use Rattle.r9_put.specs.fills.Fills.{IsRun}
use Rattle.r9_put.proofs.fills.Runs.{run_low, run_of}
use Rattle.r9_put.proofs.fills.reaching.columns_in.Goals as goal

pub distance-requires : goal.distance-requires
distance-requires c =
    let low = run_low c.args.at c.args.count c.args.given.now c.requires.some c.requires.inside in
    omega (arith, ints, low.0)

pub distance-requires-2 : goal.distance-requires-2
distance-requires-2 c =
    let low = run_low c.args.at c.args.count c.args.given.now c.requires.some c.requires.inside in
    omega (arith, ints, low.0, low.1)

pub returns : goal.returns
returns c =
    let at = c.args.at in
    let given = c.args.given.now in
    let first : c.distance.result ≡ distance at.x given.min.x = grind (arith, to_z-of_z) in
    let end : c.distance-2.result ≡ distance at.x given.max.x = grind (arith, to_z-of_z) in
    subst (λ n. IsRun at c.args.count given n c.distance-2.result) (sym first)
    (subst (λ n. IsRun at c.args.count given (distance at.x given.min.x) n) (sym end)
    (run_of at c.args.count given c.requires.some c.requires.inside))
