use Rattle.std.proofs.Common.{arith}
use Rattle.r9_kern.proofs.ByteLemmas.{raw_32}
use Rattle.r9_kern.proofs.bytes.word_at.Goals as goal

pub returns : goal.returns
returns c = omega (arith, c.from_le_bytes.ensures, raw_32 c.args.bytes.now c.args.n)
