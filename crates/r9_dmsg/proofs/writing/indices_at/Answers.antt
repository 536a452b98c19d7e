use Rattle.std.proofs.Common.{arith}
use Rattle.std.specs.Int.{w16}
use Rattle.r9_dmsg.proofs.Numbers.{numbers_there, no_numbers}
use Rattle.r9_dmsg.proofs.writing.indices_at.Goals as goal

pub returns-in_err-indices-clause-read : goal.returns-in_err-indices-clause-read
returns-in_err-indices-clause-read c = rw c.from_residual.ensures (no_numbers w16 c.args.count c.args.bytes.now (rw c.from.ensures at c.in_err-indices.ensures.value))

pub returns-clause-read : goal.returns-clause-read
returns-clause-read c = numbers_there w16 c.args.count _ c.args.bytes.now _ _ (omega (arith, c.in_ok-indices.ensures.len)) (rw c.from.ensures at c.in_ok-indices.ensures.value)
