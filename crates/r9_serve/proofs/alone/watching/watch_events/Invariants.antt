use Rattle.std.proofs.Common.{length}
use Rattle.r9_serve.proofs.alone.Runs.{RunsOn}
use Rattle.r9_serve.proofs.alone.watching.watch_events.Given as goal

abbrev pub invariant-events : goal.invariant-events
invariant-events g l = RunsOn l.fn.world.opening l.fn.session l.fn.left l.world l.watch l.number l.left

abbrev pub decreases-events : goal.decreases-events
decreases-events g l = length l.left
