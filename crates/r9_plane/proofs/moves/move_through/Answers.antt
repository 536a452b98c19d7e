use Rattle.std.proofs.Common.{arith}
use Rattle.r9_plane.proofs.PackedLemmas.{depth_most}
use Rattle.r9_plane.proofs.moves.move_through.Goals as goal

pub move_down-requires-clause-room : goal.move_down-requires-clause-room
move_down-requires-clause-room c = omega (arith, c.requires.room, depth_most c.args.depth c.requires.depth)

pub move_up-requires-clause-room : goal.move_up-requires-clause-room
move_up-requires-clause-room c = omega (arith, c.requires.room, depth_most c.args.depth c.requires.depth)
