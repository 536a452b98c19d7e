use Rattle.std.proofs.Common.{arith}
use Rattle.std.proofs.lemmas.List.{length-take}
use Rattle.r9_outside.proofs.input.Taking.{read_to_end, read_to_limit}
use Rattle.r9_outside.proofs.input.reading.read_up_to.Goals as goal

pub returns-then-branch-eq0-clause-read : goal.returns-then-branch-eq0-clause-read
returns-then-branch-eq0-clause-read g c =
    let so_far = c.taking.invariant in
    let piece = c.in_ok-take_piece.ensures in
    let none = piece.end c.if-branch-eq0.true (omega (arith, length-take c.min-room.result c.taking.buffer)) in
    read_to_end _ _ _ _ _ _ _ so_far.taken piece.taken none (omega (arith, so_far.short, piece.len, c.if-branch-eq0.true))

pub returns-clause-read : goal.returns-clause-read
returns-clause-read g c = read_to_limit _ _ _ _ c.taking.invariant.taken (omega (arith, c.taking.invariant.short, c.taking-test.false, c.len.ensures))
