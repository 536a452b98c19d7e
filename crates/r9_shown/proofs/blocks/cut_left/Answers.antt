use Rattle.std.proofs.Common.{◌≡◌, ◌≤◌, ◌<ℤ◌, arith}
use Rattle.std.proofs.lemmas.Int.{ints, to_z-of_z}
use Rattle.r9_geom.specs.Geometry.{distance}
use Rattle.r9_shown.proofs.Cuts.{cut_above, cut_before}
use Rattle.r9_shown.proofs.blocks.cut_left.Goals as goal

pub returns-then-before-columns-clause-same : goal.returns-then-before-columns-clause-same
returns-then-before-columns-clause-same c z h =
    let r = c.args.r.now in
    let above : c.args.q.y <ℤ r.min.y = omega (arith, ints, c.if-q-r.true) in
    let d : c.distance.result ≡ distance c.args.q.y r.min.y = grind (arith, to_z-of_z) in
    let few : c.min.result ≤ distance c.args.q.y r.min.y = omega (arith, d) in
    cut_above r c.args.q z c.args.most.columns c.min.result above few h

pub returns-clause-same : goal.returns-clause-same
returns-clause-same c z h =
    let r = c.args.r.now in
    let d : c.distance-before.result ≡ distance c.args.q.x r.min.x = grind (arith, to_z-of_z) in
    let few : c.min-2.result ≤ distance c.args.q.x r.min.x = omega (arith, d) in
    cut_before r c.args.q z c.min-2.result c.args.most.rows c.requires.left few h
