use Rattle.std.proofs.Common.{arith}
use Rattle.r9_images.proofs.uses.Parts.{parts}
use Rattle.r9_images.proofs.uses.uses.Uses.add_image_id.Goals as goal

pub put_image_id-requires-clause-ids : goal.put_image_id-requires-clause-ids
put_image_id-requires-clause-ids c = (parts c.args.self.now c.requires.room).image_ids

pub put_image_id-requires-clause-counts : goal.put_image_id-requires-clause-counts
put_image_id-requires-clause-counts c = let p = parts c.args.self.now c.requires.room in omega (arith, p.images)

pub add_window-requires-clause-windows : goal.add_window-requires-clause-windows
add_window-requires-clause-windows c = rw c.put_image_id.ensures.windows (parts c.args.self.now c.requires.room).windows

pub add_window-requires-clause-counts : goal.add_window-requires-clause-counts
add_window-requires-clause-counts c = let p = parts c.args.self.now c.requires.room in rw c.put_image_id.ensures.numbers (omega (arith, p.numbers))
