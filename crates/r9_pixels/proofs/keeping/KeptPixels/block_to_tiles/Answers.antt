use Rattle.std.proofs.Common.{arith}
use Rattle.r9_geom.proofs.GeometryLemmas.{corner}
use Rattle.r9_pixels.proofs.Copied.{whole_place}
use Rattle.r9_pixels.proofs.Owning.{own_below}
use Rattle.r9_pixels.proofs.keeping.KeptPixels.block_to_tiles.Goals as goal

pub extent-requires : goal.extent-requires
extent-requires g c =
    let self = c.args.self.now in
    let r = c.args.r.now in
    omega (arith, own_below self.owns.items self.cells c.args.from r.min (c.requires.can.had r.min (corner r c.requires.some.across c.requires.some.down)), self.owns.ok.0)

pub hide_block-requires-clause-whole : goal.hide_block-requires-clause-whole
hide_block-requires-clause-whole g c =
    let self = c.args.self.now in
    let r = c.args.r.now in
    whole_place self.owns.items self.cells c.args.from r.min (c.extent.ensures.none c.in-None.is) (c.requires.can.had r.min (corner r c.requires.some.across c.requires.some.down))
