use Rattle.std.proofs.Common.{◌≡◌, ◌≤◌, length}
use Rattle.tests_lock.proofs.room.write_in.Given as goal

abbrev pub invariant-loop : goal.invariant-loop
invariant-loop g l = (l.pass.lock ≡ l.initial.pass.lock) × (l.pass.shares ≡ l.initial.pass.shares) × (length (g.O.Sink.held l.initial.output) ≤ length (g.O.Sink.held l.output))
