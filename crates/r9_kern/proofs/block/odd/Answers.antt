use Rattle.std.proofs.Common.{w8}
use Rattle.std.proofs.lemmas.Simd.{below_from_Fits}
use lib.Lanes.{number_l}
use Rattle.r9_kern.proofs.LaneLemmas.{higher_of, higher_small}
use Rattle.r9_kern.proofs.block.odd.Goals as goal

pub returns-clause-value : goal.returns-clause-value
returns-clause-value c j less =
    higher_of 8 c.args.components j c.fits-components.0 (below_from_Fits w8 c.args.components c.fits-components.1) less

pub returns-clause-range : goal.returns-clause-range
returns-clause-range c = higher_small 8 (number_l 256 c.args.components)
