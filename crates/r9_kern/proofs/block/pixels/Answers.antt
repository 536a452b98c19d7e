use Rattle.std.proofs.Common.{refl, arith, ap, ◌∙◌, ◌*◌, w8}
use Rattle.std.proofs.lemmas.Simd.{get_or_wider, below_from_Fits}
use lib.Lanes.{number_l}
use Rattle.model_pixel.specs.Channels.{colour_of}
use Rattle.r9_kern.proofs.LaneLemmas.{pixel_is, words_small}
use Rattle.r9_kern.proofs.block.pixels.Goals as goal

pub returns-clause-value : goal.returns-clause-value
returns-clause-value c i less =
    let xs = c.args.components in
    let small = below_from_Fits w8 xs c.fits-components.1 in
    ap colour_of (get_or_wider 256 4 4294967296 4 xs i refl small less) ∙ pixel_is xs (4 * i) (omega (arith, c.fits-components.0)) small

pub returns-clause-range : goal.returns-clause-range
returns-clause-range c i = words_small 4 (number_l 256 c.args.components) i
