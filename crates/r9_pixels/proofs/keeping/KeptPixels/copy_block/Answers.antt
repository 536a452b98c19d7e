use Rattle.std.proofs.Common.{arith}
use Rattle.r9_geom.specs.Geometry.{carried}
use Rattle.r9_geom.proofs.GeometryLemmas.{corner}
use Rattle.r9_pixels.proofs.Owning.{own_below}
use Rattle.r9_pixels.proofs.keeping.KeptPixels.copy_block.Goals as goal

pub extent-requires : goal.extent-requires
extent-requires g c =
    let self = c.args.self.now in
    let r = c.args.r.now in
    omega (arith, own_below self.owns.items self.cells c.args.to (carried r.min r.min c.args.p) (c.requires.can.has r.min (corner r c.requires.some.across c.requires.some.down)), self.owns.ok.0)
