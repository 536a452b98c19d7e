use Rattle.std.proofs.Common.{arith}
use Rattle.r9_images.proofs.uses.Parts.{parts}
use Rattle.r9_images.proofs.uses.uses.Uses.add_screen.Goals as goal

pub put_screen-requires-clause-images : goal.put_screen-requires-clause-images
put_screen-requires-clause-images c = (parts c.args.self.now c.requires.room).images

pub put_screen-requires-clause-on : goal.put_screen-requires-clause-on
put_screen-requires-clause-on c = let p = parts c.args.self.now c.requires.room in omega (arith, p.on)

pub put_screen-requires-clause-screens : goal.put_screen-requires-clause-screens
put_screen-requires-clause-screens c = (parts c.args.self.now c.requires.room).screens

pub put_screen_id-requires-clause-ids : goal.put_screen_id-requires-clause-ids
put_screen_id-requires-clause-ids c = rw c.put_screen.ensures.screen_ids (parts c.args.self.now c.requires.room).screen_ids

pub put_screen_id-requires-clause-counts : goal.put_screen_id-requires-clause-counts
put_screen_id-requires-clause-counts c = let p = parts c.args.self.now c.requires.room in rw c.put_screen.ensures.numbers (omega (arith, p.numbers))
