use Rattle.std.proofs.Common.{arith}
use Rattle.std.proofs.lemmas.Nat.{one_shl}
use Rattle.r9_cursor.proofs.Bytes.{range}
use Rattle.r9_cursor.proofs.cursor.with_pixel.Goals as goal

pub returns-clause-range : goal.returns-clause-range
returns-clause-range c =
    rw (one_shl c.args.depth 32 (omega (arith, c.requires.small))) (range c.args.byte c.args.depth c.args.i c.args.raw c.requires.byte c.requires.raw)
