use Rattle.std.proofs.Common.{◌≡◌, length}
use Rattle.r9_lock.proofs.bells.Bells.start.Given as goal

abbrev pub invariant-loop : goal.invariant-loop
invariant-loop l = length l.all.items ≡ l.counter
