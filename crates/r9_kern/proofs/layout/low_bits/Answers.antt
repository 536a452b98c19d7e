use Rattle.r9_kern.proofs.LayoutLemmas.{bit_lanes, word_lane}
use Rattle.r9_kern.proofs.layout.low_bits.Goals as goal

pub returns : goal.returns
returns c i less = bit_lanes c.args.raws i c.fits-raws.0 less (word_lane c.args.raws i c.fits-raws.0 c.fits-raws.1 less)
