use Rattle.r9_images.proofs.uses.Parts.{room-kept}
use Rattle.r9_images.proofs.uses.uses.Uses.reserve.Goals as goal

pub returns-clause-more : goal.returns-clause-more
returns-clause-more c =
    room-kept c.args.self.now _ c.reserve.ensures.more c.reserve-2.ensures.more c.reserve-3.ensures.more c.reserve-4.ensures.more c.reserve-5.ensures.more c.reserve-6.ensures.more c.reserve-7.ensures.more
