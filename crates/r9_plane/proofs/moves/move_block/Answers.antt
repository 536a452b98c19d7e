use Rattle.std.proofs.Common.{◌+◌, ◌%◌, arith}
use Rattle.std.proofs.lemmas.Nat.{mul-le}
use Rattle.r9_plane.proofs.moves.move_block.Goals as goal

pub copy_run-requires-clause-within : goal.copy_run-requires-clause-within
copy_run-requires-clause-within c =
    let most = mul-le (c.args.from_first % 8 + c.args.count) c.args.depth 1024 c.args.depth (omega (arith, c.requires.count)) (omega arith) in
    omega (arith, most, c.requires.room)

pub copy_kept-requires-clause-from : goal.copy_kept-requires-clause-from
copy_kept-requires-clause-from c =
    let most = mul-le (c.args.from_first % 8 + c.args.count) c.args.depth 1024 c.args.depth (omega (arith, c.requires.count)) (omega arith) in
    omega (arith, most, c.requires.room, c.copy_run.auto.bytes)
