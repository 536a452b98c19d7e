use Rattle.std.proofs.Common.{◌-◌, ◌+◌, ◌*◌, ◌<◌, ◌≤◌, ◌^◌, ℕ, slice_index_or, arith}
use Rattle.r9_text.proofs.DigitLoop.{more, below}
use Rattle.r9_text.proofs.field.digits.Goals as goal

pub overflow_add-value : goal.overflow_add-value
overflow_add-value c =
    let digit : ℕ = slice_index_or c.args.word.now c.loop-digit.digit-index 0 - 48 in
    let small : digit < 10 = grind arith in
    let fits : 10 * c.loop-digit.value + digit < 2 ^ 63 = more c.loop-digit.digit-index c.loop-digit.value digit c.loop-digit.invariant.small (omega (arith, c.requires, c.loop-digit-test.true)) small in
    omega arith

pub overflow_mul-value : goal.overflow_mul-value
overflow_mul-value c =
    let fits : 10 * c.loop-digit.value + 0 < 2 ^ 63 = more c.loop-digit.digit-index c.loop-digit.value 0 c.loop-digit.invariant.small (omega (arith, c.requires, c.loop-digit-test.true)) (omega arith) in
    omega arith

pub returns-clause-small : goal.returns-clause-small
returns-clause-small c =
    let few : c.loop-digit.digit-index ≤ 18 = omega arith in
    below c.loop-digit.digit-index c.loop-digit.value c.loop-digit.invariant.small few
