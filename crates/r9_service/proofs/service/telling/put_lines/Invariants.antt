use Rattle.std.proofs.Common.{take, ◌≤◌}
use Rattle.std.specs.List.{flat_map}
use Rattle.r9_outside.specs.outside.Sink.{Appends}
use Rattle.r9_attend.specs.workers.Lines.{lines_of}
use Rattle.r9_service.proofs.service.telling.put_lines.Given as goal

abbrev pub invariant-loop-ends : goal.invariant-loop-ends
invariant-loop-ends g l = record {
  put : Appends (g.E.Sink.held l.fn.err) (flat_map lines_of (take l.ends-index l.sessions)) (g.E.Sink.held l.err);
  counted : g.E.Sink.faults l.fn.err ≤ g.E.Sink.faults l.err;
}
