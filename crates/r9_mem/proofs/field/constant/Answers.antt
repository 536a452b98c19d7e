use Rattle.std.proofs.Common.{arith}
use Rattle.r9_mem.specs.Fields.{value}
use Rattle.r9_mem.proofs.field.constant.Goals as goal

pub returns-clause-field : goal.returns-clause-field
unfolding value
returns-clause-field c = record { low = omega arith; ones = omega arith; times = omega arith; cut = omega arith; base = omega arith; below = λ raw. omega arith }

pub returns-clause-value : goal.returns-clause-value
unfolding value
returns-clause-value c raw = omega arith
