use Rattle.r9_kern.proofs.LayoutLemmas.{low_lanes}
use Rattle.r9_kern.proofs.layout.without_highest.Goals as goal

pub returns : goal.returns
returns c i less = low_lanes c.args.words i c.fits-words.0 less
