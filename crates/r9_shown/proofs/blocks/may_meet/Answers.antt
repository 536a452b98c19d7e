use Rattle.std.proofs.Common.{arith}
use Rattle.std.proofs.lemmas.Int.{ints}
use Rattle.r9_shown.proofs.blocks.may_meet.Goals as goal

pub returns-then-end-low-clause-off : goal.returns-then-end-low-clause-off
returns-then-end-low-clause-off c e n at is left right above =
    is at c.args.high (omega (arith, ints, c.if-end-low.true, left)) right (omega (arith, ints))

pub returns-clause-off : goal.returns-clause-off
returns-clause-off c e n at is left right above = absurd (omega (arith, ints, e, right, above))
