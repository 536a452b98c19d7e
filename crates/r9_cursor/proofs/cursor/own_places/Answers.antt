use Rattle.std.proofs.Common.{◌≡◌, ◌∙◌, ap, min, arith, pos, ◌+ℤ◌, w64, to_z, of_z}
use Rattle.std.proofs.lemmas.Int.{ints, clamps}
use Rattle.r9_geom.specs.Geometry.{distance}
use Rattle.r9_cursor.proofs.Beside.{distance_from}
use Rattle.r9_cursor.proofs.cursor.own_places.Goals as goal

pub returns-clause-first : goal.returns-clause-first
returns-clause-first c =
    let low : to_z w64 (of_z w64 c.args.low) ≡ c.args.low = omega (arith, ints) in
    let most : to_z w64 (of_z w64 c.max.result) ≡ c.max.result = omega (arith, ints) in
    let d : c.distance.result ≡ distance c.args.low c.args.at =
    c.distance.ensures ∙ (λ i. distance (low i) (most i)) ∙ distance_from c.args.low c.args.at c.max.result (λ h. omega (arith, ints, clamps, c.max.ensures.value, h)) (λ h. omega (arith, ints, clamps, c.max.ensures.value, h)) in
    c.min-first.ensures ∙ ap (λ n. min n c.args.count) d

pub returns-clause-end : goal.returns-clause-end
returns-clause-end c =
    let at = c.args.at +ℤ pos 16 in
    let low : to_z w64 (of_z w64 c.args.low) ≡ c.args.low = omega (arith, ints) in
    let most : to_z w64 (of_z w64 c.max-2.result) ≡ c.max-2.result = omega (arith, ints) in
    let d : c.distance-2.result ≡ distance c.args.low at =
    c.distance-2.ensures ∙ (λ i. distance (low i) (most i)) ∙ distance_from c.args.low at c.max-2.result (λ h. omega (arith, ints, clamps, c.max-2.ensures.value, h)) (λ h. omega (arith, ints, clamps, c.max-2.ensures.value, h)) in
    c.min-end.ensures ∙ ap (λ n. min n c.args.count) d
