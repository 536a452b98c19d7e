use Rattle.r9_attend.specs.attend.Calls.{told_ends}
use Rattle.r9_attend.specs.workers.Shifts.{told_doors}
use Rattle.r9_attend.specs.workers.Steps.{place, SoFar}
use Rattle.r9_attend.proofs.workers.worker.serve.Given as goal

abbrev pub invariant-loop : goal.invariant-loop
invariant-loop g l = SoFar (told_doors g.D.Door.ended g.D.Door.over g.D.Door.faults (told_ends g.D.In.Source.left g.D.In.Source.faults g.D.Out.Sink.held g.D.Out.Sink.unflushed g.D.Out.Sink.faults)) g.T.Serves.server
    l.counter (place l.fn.door l.fn.reader l.fn.writer) (place l.door l.reader l.writer) l.report
