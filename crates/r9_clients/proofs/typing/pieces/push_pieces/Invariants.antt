use Rattle.std.proofs.Common.{length}
use Rattle.r9_clients.specs.page.Shown.{shape_of}
use Rattle.r9_clients.proofs.typing.Typing.{IsSoFar}
use Rattle.r9_clients.proofs.typing.pieces.push_pieces.Given as goal

abbrev pub invariant-pieces : goal.invariant-pieces
invariant-pieces l = IsSoFar (shape_of l.shape) l.fn.text l.rest l.fn.out l.out l.window

abbrev pub decreases-pieces : goal.decreases-pieces
decreases-pieces l = length l.rest
