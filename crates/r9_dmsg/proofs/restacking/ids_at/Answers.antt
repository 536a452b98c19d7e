use Rattle.std.proofs.Common.{arith}
use Rattle.std.specs.Int.{w32}
use Rattle.r9_dmsg.proofs.Numbers.{numbers_there, no_numbers}
use Rattle.r9_dmsg.proofs.restacking.ids_at.Goals as goal

pub returns-in_err-ids-clause-read : goal.returns-in_err-ids-clause-read
returns-in_err-ids-clause-read c = rw c.from_residual.ensures (no_numbers w32 c.args.count c.args.bytes.now (rw c.from.ensures at c.in_err-ids.ensures.value))

pub returns-clause-read : goal.returns-clause-read
returns-clause-read c = numbers_there w32 c.args.count _ c.args.bytes.now _ _ (omega (arith, c.in_ok-ids.ensures.len)) (rw c.from.ensures at c.in_ok-ids.ensures.value)
