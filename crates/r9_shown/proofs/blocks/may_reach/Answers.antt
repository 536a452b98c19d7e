use Rattle.std.proofs.Common.{◌≡◌, of_z, subst, sym, to_z, w64, arith}
use Rattle.std.proofs.lemmas.Bool.{false_from_ne_true}
use Rattle.std.proofs.lemmas.Int.{ints, to_z-of_z}
use Rattle.r9_geom.specs.Geometry.{holds}
use Rattle.r9_geom.proofs.GeometryLemmas.{bounds_of}
use Rattle.r9_shown.specs.Shown.{block, IsEnd}
use Rattle.r9_shown.proofs.blocks.may_reach.Goals as goal

pub returns-then-not-may_meet-clause-off : goal.returns-then-not-may_meet-clause-off
returns-then-not-may_meet-clause-off c e columns rows right bottom z h =
    let low : to_z w64 (of_z w64 c.args.q.y) ≡ c.args.q.y = grind (arith, to_z-of_z) in
    let min : to_z w64 (of_z w64 c.args.r.now.min.y) ≡ c.args.r.now.min.y = grind (arith, to_z-of_z) in
    let max : to_z w64 (of_z w64 c.args.r.now.max.y) ≡ c.args.r.now.max.y = grind (arith, to_z-of_z) in
    let end : to_z w64 (of_z w64 c.args.end.y) ≡ c.args.end.y = grind (arith, to_z-of_z) in
    let there : IsEnd (to_z w64 (of_z w64 c.args.q.y)) rows (to_z w64 (of_z w64 c.args.end.y)) =
    subst (λ n. IsEnd (to_z w64 (of_z w64 c.args.q.y)) rows n) (sym end) (subst (λ n. IsEnd n rows c.args.end.y) (sym low) bottom) in
    false_from_ne_true (holds c.args.r.now z)
    (λ k.
    let b = bounds_of (block c.args.q columns rows) z h in
    let a = bounds_of c.args.r.now z k in
    absurd (omega (arith, ints, b.bottom, c.may_meet.ensures.off c.if-not-may_meet.true rows z.y there (omega (arith, ints, min, a.top)) (omega (arith, ints, max, a.bottom)) (omega (arith, ints, low, b.top)))))

pub returns-clause-off : goal.returns-clause-off
returns-clause-off c e columns rows right bottom z h =
    let low : to_z w64 (of_z w64 c.args.q.x) ≡ c.args.q.x = grind (arith, to_z-of_z) in
    let min : to_z w64 (of_z w64 c.args.r.now.min.x) ≡ c.args.r.now.min.x = grind (arith, to_z-of_z) in
    let max : to_z w64 (of_z w64 c.args.r.now.max.x) ≡ c.args.r.now.max.x = grind (arith, to_z-of_z) in
    let end : to_z w64 (of_z w64 c.args.end.x) ≡ c.args.end.x = grind (arith, to_z-of_z) in
    let there : IsEnd (to_z w64 (of_z w64 c.args.q.x)) columns (to_z w64 (of_z w64 c.args.end.x)) =
    subst (λ n. IsEnd (to_z w64 (of_z w64 c.args.q.x)) columns n) (sym end) (subst (λ n. IsEnd n columns c.args.end.x) (sym low) right) in
    false_from_ne_true (holds c.args.r.now z)
    (λ k.
    let b = bounds_of (block c.args.q columns rows) z h in
    let a = bounds_of c.args.r.now z k in
    absurd (omega (arith, ints, b.right, c.may_meet-2.ensures.off e columns z.x there (omega (arith, ints, min, a.left)) (omega (arith, ints, max, a.right)) (omega (arith, ints, low, b.left)))))
