use Rattle.std.proofs.Common.{◌<◌, length, sym, arith}
use Rattle.r9_pixels.proofs.Areas.{empty_area, solid_corner}
use Rattle.r9_pixels.proofs.Owning.{own_below}
use Rattle.r9_pixels.proofs.keeping.KeptPixelsPixels.fill_block.Goals as goal

pub paint_block-requires-clause-live : goal.paint_block-requires-clause-live
paint_block-requires-clause-live g c =
    let r = c.args.r.now in
    let below : c.args.i < length c.args.self.now.owns.items = own_below c.args.self.now.owns.items c.args.self.now.cells c.args.i r.min (c.requires.has r.min (solid_corner r (sym c.if-not-is_empty.ensures.exact))) in
    omega (arith, below, c.args.self.now.owns.ok.0)

pub returns-else-not-is_empty-clause-steps : goal.returns-else-not-is_empty-clause-steps
returns-else-not-is_empty-clause-steps g c =
    let none = empty_area c.args.r.now c.requires.ordered (sym c.if-not-is_empty.ensures.exact) in
    omega (arith, none)
