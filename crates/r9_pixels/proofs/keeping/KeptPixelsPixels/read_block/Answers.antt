use Rattle.std.proofs.Common.{◌<◌, length, sym, arith}
use Rattle.r9_pixels.proofs.Areas.{solid_corner}
use Rattle.r9_pixels.proofs.Owning.{own_below}
use Rattle.r9_pixels.proofs.keeping.KeptPixelsPixels.read_block.Goals as goal

pub load_block-requires-clause-live : goal.load_block-requires-clause-live
load_block-requires-clause-live c =
    let r = c.args.r.now in
    let below : c.args.i < length c.args.self.now.owns.items = own_below c.args.self.now.owns.items c.args.self.now.cells c.args.i r.min (c.requires.has r.min (solid_corner r (sym c.if-not-is_empty.ensures.exact))) in
    omega (arith, below, c.args.self.now.owns.ok.0)
