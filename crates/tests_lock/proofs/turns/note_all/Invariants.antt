use Rattle.std.proofs.Common.{◌≡◌}
use Rattle.tests_lock.proofs.turns.note_all.Given as goal

abbrev pub invariant-loop-i : goal.invariant-loop-i
invariant-loop-i g l = (l.pass.lock ≡ l.initial.pass.lock) × (l.pass.shares ≡ l.initial.pass.shares)
