use Rattle.std.proofs.Common.{arith}
use Rattle.r9_plane.specs.Pixels.{along}
use Rattle.r9_pixels.proofs.Copied.{whole_place}
use Rattle.r9_pixels.proofs.Owning.{own_below}
use Rattle.r9_pixels.proofs.keeping.KeptPixels.copy_to_plane.Goals as goal

pub extent-requires : goal.extent-requires
extent-requires g c =
    let self = c.args.self.now in
    omega (arith, own_below self.owns.items self.cells c.args.from (along c.args.at 0) (c.requires.can.had 0 c.requires.some), self.owns.ok.0)

pub show-requires-clause-whole : goal.show-requires-clause-whole
show-requires-clause-whole g c =
    let self = c.args.self.now in
    whole_place self.owns.items self.cells c.args.to (along c.args.p 0) c.requires.whole (c.requires.can.has 0 c.requires.some)

pub show-requires-clause-hidden : goal.show-requires-clause-hidden
show-requires-clause-hidden g c = c.extent.ensures.some c.in-Some.extent c.in-Some.is

pub returns-in-Some-clause-carried : goal.returns-in-Some-clause-carried
returns-in-Some-clause-carried g c = record { pixels = c.show.ensures.pixels; others = c.show.ensures.others; has = c.show.ensures.has; forms = c.show.ensures.forms; moment = c.show.ensures.moment; spare = c.show.ensures.spare }

pub returns-in-None-clause-carried : goal.returns-in-None-clause-carried
returns-in-None-clause-carried g c = c.copy_blocks.ensures.carried
