use Rattle.std.proofs.Common.{drop, ◌≤◌}
use Rattle.r9_serve.proofs.replay.Lines.{IsPut}
use Rattle.r9_serve.specs.replay.Log.{cut_replies, AreCut}
use Rattle.model_history.specs.records.Line.{reply_lines}
use Rattle.r9_serve.proofs.replay.log.put_most.Given as goal

abbrev pub invariant-loop-mark : goal.invariant-loop-mark
invariant-loop-mark g l = record {
  put : IsPut (g.O.Sink.held l.fn.out) l.lines (reply_lines (cut_replies (drop l.mark-index l.marks) l.rest)) (g.O.Sink.held l.out) (reply_lines (cut_replies l.marks l.bytes));
  cut : AreCut (drop l.mark-index l.marks) l.rest;
  counted : g.O.Sink.faults l.fn.out ≤ g.O.Sink.faults l.out;
}
