use Rattle.std.proofs.Common.{sym}
use Rattle.std.specs.Int.{w16}
use Rattle.r9_dmsg.proofs.Numbers.{number_at_place}
use Rattle.r9_dmsg.proofs.writing.Writing.index.Goals as goal

pub returns : goal.returns
returns c = rw (c.split_u16-index.ensures.number, c.split_at.ensures.back) (sym (number_at_place w16 _ c.args.k c.args.self.now.indices.now c.requires))
