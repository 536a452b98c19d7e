use Rattle.std.proofs.Common.{◌≡◌, ◌≤◌, ◌≤ℤ◌, ◌<ℤ◌, arith}
use Rattle.std.proofs.lemmas.Int.{ints, to_z-of_z}
use Rattle.r9_geom.specs.Geometry.{distance}
use Rattle.r9_shown.proofs.Cuts.{cut_above, cut_within}
use Rattle.r9_shown.proofs.blocks.cut_near.Goals as goal

pub returns-then-q-r-2-clause-same : goal.returns-then-q-r-2-clause-same
returns-then-q-r-2-clause-same c z h =
    let r = c.args.r.now in
    let above : c.args.q.y <ℤ r.min.y = omega (arith, ints, c.if-q-r-2.true) in
    let d : c.distance.result ≡ distance c.args.q.y r.min.y = grind (arith, to_z-of_z) in
    let few : c.min.result ≤ distance c.args.q.y r.min.y = omega (arith, d) in
    cut_above r c.args.q z c.args.most.columns c.min.result above few h

pub returns-clause-same : goal.returns-clause-same
returns-clause-same c z h =
    let r = c.args.r.now in
    let q = c.args.q in
    let left : r.min.x ≤ℤ q.x = omega (arith, ints, c.if-q-r.false) in
    let top : r.min.y ≤ℤ q.y = omega (arith, ints, c.if-q-r-2.false) in
    let d : c.distance-2.result ≡ distance q.x r.max.x = grind (arith, to_z-of_z) in
    let e : c.distance-3.result ≡ distance q.y r.max.y = grind (arith, to_z-of_z) in
    let few : c.min-2.result ≤ distance q.x r.max.x = omega (arith, d) in
    let few_rows : c.min-3.result ≤ distance q.y r.max.y = omega (arith, e) in
    cut_within r q z c.min-2.result c.min-3.result left c.requires.right top c.requires.bottom few few_rows h
