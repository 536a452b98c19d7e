use Rattle.r9_device.proofs.device.Rects.{points-of}
use Rattle.r9_draw.proofs.messages.lookup.rows_of_part.Goals as goal

pub rows_len-requires-clause-points : goal.rows_len-requires-clause-points
rows_len-requires-clause-points c = points-of c.args.r.now c.requires.some
