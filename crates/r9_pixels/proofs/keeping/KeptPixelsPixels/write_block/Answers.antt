use Rattle.std.proofs.Common.{sym, arith}
use Rattle.r9_pixels.proofs.Areas.{empty_area}
use Rattle.r9_pixels.proofs.keeping.KeptPixelsPixels.write_block.Goals as goal

pub returns-else-not-is_empty-clause-steps : goal.returns-else-not-is_empty-clause-steps
returns-else-not-is_empty-clause-steps g c =
    let none = empty_area c.args.r.now c.requires.ordered (sym c.if-not-is_empty.ensures.exact) in
    omega (arith, none)
