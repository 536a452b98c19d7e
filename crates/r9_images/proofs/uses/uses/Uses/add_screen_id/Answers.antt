use Rattle.std.proofs.Common.{arith}
use Rattle.r9_images.proofs.uses.Parts.{parts}
use Rattle.r9_images.proofs.uses.uses.Uses.add_screen_id.Goals as goal

pub put_screen_id-requires-clause-ids : goal.put_screen_id-requires-clause-ids
put_screen_id-requires-clause-ids c = (parts c.args.self.now c.requires.room).screen_ids

pub put_screen_id-requires-clause-counts : goal.put_screen_id-requires-clause-counts
put_screen_id-requires-clause-counts c = let p = parts c.args.self.now c.requires.room in omega (arith, p.numbers)
