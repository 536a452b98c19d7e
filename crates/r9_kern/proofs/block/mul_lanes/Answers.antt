use Rattle.std.proofs.Common.{sym, subst}
use Rattle.r9_kern.proofs.LaneLemmas.{Bytes, products_is, products-small, halves_fit}
use Rattle.r9_kern.proofs.block.mul_lanes.Goals as goal

pub overflow_cast-result : goal.overflow_cast-result
overflow_cast-result c = halves_fit 8 _

pub returns : goal.returns
returns c =
    let is = products_is 8 c.args.a c.args.b c.fits-a.0 c.requires.left c.requires.right in record {
      value = is;
      range = subst Bytes (sym is) (products-small c.args.a c.args.b c.requires.left c.requires.right);
    }
