use Rattle.std.proofs.Common.{sym, subst}
use Rattle.r9_kern.proofs.LaneLemmas.{Bytes, sums_is, sums-small}
use Rattle.r9_kern.proofs.block.add_lanes.Goals as goal

pub returns : goal.returns
returns c =
    let is = sums_is 8 c.args.a c.args.b c.fits-a.0 c.requires.left c.requires.right in record {
      value = is;
      range = subst Bytes (sym is) (sums-small c.args.a c.args.b c.requires.left c.requires.right);
    }
