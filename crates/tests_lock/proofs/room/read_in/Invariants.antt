use Rattle.std.proofs.Common.{◌≡◌, ◌≤◌, length}
use Rattle.tests_lock.proofs.room.read_in.Given as goal

abbrev pub invariant-loop : goal.invariant-loop
invariant-loop g l = (l.pass.lock ≡ l.initial.pass.lock) × (l.pass.shares ≡ l.initial.pass.shares) × (length (g.S.Source.left l.input) ≤ length (g.S.Source.left l.initial.input))
