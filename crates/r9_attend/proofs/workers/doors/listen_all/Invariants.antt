use Rattle.std.proofs.Common.{◌≡◌, drop}
use Rattle.std.specs.List.{AllZip}
use Rattle.r9_attend.specs.attend.Calls.{told_ends}
use Rattle.r9_attend.specs.workers.Shifts.{told_doors, Listened, NoneFails}
use Rattle.r9_attend.proofs.workers.doors.listen_all.Given as goal

abbrev pub invariant-loop-worker : goal.invariant-loop-worker
invariant-loop-worker g l = record {
  each : AllZip (Listened (told_doors g.D.Door.ended g.D.Door.over g.D.Door.faults (told_ends g.D.In.Source.left g.D.In.Source.faults g.D.Out.Sink.held g.D.Out.Sink.unflushed g.D.Out.Sink.faults))) l.fn.doors l.doors;
  rest : drop l.worker l.doors ≡ drop l.worker l.fn.doors;
  asked : NoneFails g.D.Door.fails_next l.worker l.fn.doors;
}
