use Rattle.std.proofs.Common.{arith}
use Rattle.r9_plane.specs.Pixels.{along}
use Rattle.r9_pixels.proofs.Copied.{whole_place}
use Rattle.r9_pixels.proofs.Owning.{own_below}
use Rattle.r9_pixels.proofs.keeping.KeptPixels.copy_to_tiles.Goals as goal

pub extent-requires : goal.extent-requires
extent-requires g c =
    let self = c.args.self.now in
    omega (arith, own_below self.owns.items self.cells c.args.from (along c.args.at 0) (c.requires.can.had 0 c.requires.some), self.owns.ok.0)

pub hide-requires-clause-whole : goal.hide-requires-clause-whole
hide-requires-clause-whole g c =
    let self = c.args.self.now in
    whole_place self.owns.items self.cells c.args.from (along c.args.at 0) (c.extent.ensures.none c.in-None.is) (c.requires.can.had 0 c.requires.some)

pub returns-in-Some-clause-carried : goal.returns-in-Some-clause-carried
returns-in-Some-clause-carried g c = c.copy_blocks.ensures.carried

pub returns-in-None-clause-carried : goal.returns-in-None-clause-carried
returns-in-None-clause-carried g c = record { pixels = c.hide.ensures.pixels; others = c.hide.ensures.others; has = c.hide.ensures.has; forms = c.hide.ensures.forms; moment = c.hide.ensures.moment; spare = c.hide.ensures.spare }
