use Rattle.std.proofs.Common.{◌≡◌, ◌≤ℤ◌, ◌+ℤ◌, of_z, pos, subst, to_z, w64, arith}
use Rattle.std.proofs.lemmas.Int.{ints, to_z-of_z}
use Rattle.r9_shown.proofs.Cuts.{from_saturated}
use Rattle.r9_shown.proofs.blocks.past.Goals as goal

pub returns : goal.returns
returns c at high from before most =
    let low = to_z w64 (of_z w64 c.args.low) in
    let low_is : low ≡ c.args.low = grind (arith, to_z-of_z) in
    let sum = c.saturating_add_unsigned.result in
    let sum_is : to_z w64 (of_z w64 sum) ≡ sum = grind (arith, to_z-of_z) in
    let end = from_saturated (low +ℤ pos c.args.n) at high (subst (λ n. n ≤ℤ at) c.saturating_add_unsigned.ensures (subst (λ n. n ≤ℤ at) sum_is from)) before most in
    omega (arith, ints, low_is, end)
