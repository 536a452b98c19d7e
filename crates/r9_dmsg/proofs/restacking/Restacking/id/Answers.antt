use Rattle.std.proofs.Common.{sym}
use Rattle.std.specs.Int.{w32}
use Rattle.r9_dmsg.proofs.Numbers.{number_at_place}
use Rattle.r9_dmsg.proofs.restacking.Restacking.id.Goals as goal

pub returns : goal.returns
returns c = rw (c.split_u32-id.ensures.number, c.split_at.ensures.back) (sym (number_at_place w32 _ c.args.k c.args.self.now.ids.now c.requires))
