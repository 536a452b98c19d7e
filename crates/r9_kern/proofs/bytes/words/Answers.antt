use Rattle.std.proofs.Common.{refl, arith, ◌∙◌, w8}
use Rattle.std.proofs.lemmas.Simd.{get_or_wider, below_from_Fits}
use Rattle.r9_kern.proofs.ByteLemmas.{word_raw}
use Rattle.r9_kern.proofs.bytes.words.Goals as goal

pub returns : goal.returns
returns c i less =
    let xs = c.args.bytes in
    get_or_wider 256 4 4294967296 4 xs i refl (below_from_Fits w8 xs c.fits-bytes.1) less ∙ word_raw xs i (omega (arith, c.fits-bytes.0))
