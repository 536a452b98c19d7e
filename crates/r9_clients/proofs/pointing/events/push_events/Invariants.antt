use Rattle.r9_clients.proofs.pointing.Steps.{IsSoFar}
use Rattle.r9_clients.proofs.pointing.events.push_events.Given as goal

abbrev pub invariant-loop-e : goal.invariant-loop-e
invariant-loop-e l = IsSoFar l.events l.e-index l.fn.out l.out l.desk
