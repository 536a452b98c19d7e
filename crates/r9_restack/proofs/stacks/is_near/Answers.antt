use Rattle.std.proofs.Common.{arith}
use Rattle.std.proofs.lemmas.Int.{ints}
use Rattle.std.proofs.lemmas.Bool.{false_from_ne_true}
use Rattle.r9_geom.specs.Geometry.{holds}
use Rattle.r9_geom.proofs.GeometryLemmas.{bounds_of}
use Rattle.r9_restack.proofs.stacks.is_near.Goals as goal

pub returns-then-not-may_meet : goal.returns-then-not-may_meet
returns-then-not-may_meet c off z inside =
    false_from_ne_true (holds c.args.r.now z)
    (λ h.
    let here = bounds_of c.args.area.now z inside in
    let there = bounds_of c.args.r.now z h in
    let after = c.may_meet.ensures c.if-not-may_meet.true z.x (omega (arith, ints, here.left)) (omega (arith, ints, here.right)) (omega (arith, ints, there.left)) in
    absurd (omega (arith, ints, after, there.right)))

pub returns : goal.returns
returns c off z inside =
    false_from_ne_true (holds c.args.r.now z)
    (λ h.
    let here = bounds_of c.args.area.now z inside in
    let there = bounds_of c.args.r.now z h in
    let after = c.may_meet-2.ensures off z.y (omega (arith, ints, here.top)) (omega (arith, ints, here.bottom)) (omega (arith, ints, there.top)) in
    absurd (omega (arith, ints, after, there.bottom)))
