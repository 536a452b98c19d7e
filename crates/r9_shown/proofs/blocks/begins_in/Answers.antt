use Rattle.std.proofs.Common.{arith}
use Rattle.std.proofs.lemmas.Bool.{false_from_ne_true}
use Rattle.std.proofs.lemmas.Int.{ints}
use Rattle.r9_geom.specs.Geometry.{holds}
use Rattle.r9_geom.proofs.GeometryLemmas.{bounds_of}
use Rattle.r9_shown.specs.Shown.{block}
use Rattle.r9_shown.proofs.blocks.begins_in.Goals as goal

pub returns-then-not-is_before : goal.returns-then-not-is_before
returns-then-not-is_before c off z h =
    false_from_ne_true (holds c.args.r.now z)
    (λ k.
    let b = bounds_of (block c.args.q c.args.most.columns c.args.most.rows) z h in
    let a = bounds_of c.args.r.now z k in
    absurd (omega (arith, ints, b.bottom, a.top, c.is_before.ensures c.if-not-is_before.true)))

pub returns : goal.returns
returns c off z h =
    false_from_ne_true (holds c.args.r.now z)
    (λ k.
    let b = bounds_of (block c.args.q c.args.most.columns c.args.most.rows) z h in
    let a = bounds_of c.args.r.now z k in
    absurd (omega (arith, ints, b.right, a.left, c.is_before-2.ensures off)))
