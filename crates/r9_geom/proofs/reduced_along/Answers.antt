use Rattle.std.proofs.Common.{arith, ◌≡◌, ◌∙◌, ap, ◌+ℤ◌, ◌-ℤ◌, w64, to_z, of_z}
use Rattle.std.specs.Int.{int_rem_euclid}
use Rattle.std.proofs.lemmas.Int.{ints}
use Rattle.r9_geom.proofs.reduced_along.Goals as goal

pub returns-clause-value : goal.returns-clause-value
returns-clause-value c =
    let low = c.args.low in
    let x = c.args.x in
    let high = c.args.high in
    let offset : to_z w64 (of_z w64 (to_z w64 (of_z w64 x) -ℤ to_z w64 (of_z w64 low))) ≡ x -ℤ low = omega (arith, ints) in
    let size : to_z w64 (of_z w64 (to_z w64 (of_z w64 high) -ℤ to_z w64 (of_z w64 low))) ≡ high -ℤ low = omega (arith, ints) in
    let rest : c.rem_euclid.result ≡ int_rem_euclid (x -ℤ low) (high -ℤ low) = rw (← offset, ← size) c.rem_euclid.ensures.value in
    let sum : to_z w64 (of_z w64 (to_z w64 (of_z w64 low) +ℤ to_z w64 (of_z w64 c.rem_euclid.result))) ≡ low +ℤ c.rem_euclid.result = omega (arith, ints) in
    sum ∙ ap (λ z. low +ℤ z) rest
