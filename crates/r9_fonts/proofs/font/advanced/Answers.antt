use Rattle.std.proofs.Common.{arith}
use Rattle.std.proofs.lemmas.Int.{ints}
use Rattle.r9_fonts.proofs.font.advanced.Goals as goal

pub returns-clause-near : goal.returns-clause-near
returns-clause-near c n m h k = record {
  left = omega (arith, ints, k.left);
  right = omega (arith, ints, k.right);
  top = omega (arith, ints, k.top);
  bottom = omega (arith, ints, k.bottom);
}
