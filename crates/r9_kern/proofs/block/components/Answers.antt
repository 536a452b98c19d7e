use Rattle.std.proofs.Common.{refl, arith, w32}
use Rattle.std.proofs.lemmas.Simd.{get_or_narrower, below_from_Fits}
use Rattle.r9_kern.proofs.block.components.Goals as goal

pub returns : goal.returns
returns c i k a b = get_or_narrower 4294967296 4 256 16 c.args.pixels i k refl (below_from_Fits w32 c.args.pixels c.fits-pixels.1) b (omega arith)
