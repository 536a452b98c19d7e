use Rattle.std.proofs.Common.{◌+◌, ◌≤◌, ◌<◌, ◌^◌, length}
use Rattle.r9_serve.proofs.mirroring.Putting.{IsMirroring}
use Rattle.r9_serve.proofs.mirroring.run.put_frames.Given as goal

abbrev pub invariant-events : goal.invariant-events
invariant-events g l = record {
  mirroring : IsMirroring l.fn.opening l.fn.left (g.O.Sink.held l.fn.out) l.world l.left l.number (g.O.Sink.held l.out);
  room : l.number + length l.left < 2 ^ 40;
  counted : g.O.Sink.faults l.fn.out ≤ g.O.Sink.faults l.out;
}

abbrev pub decreases-events : goal.decreases-events
decreases-events g l = length l.left
