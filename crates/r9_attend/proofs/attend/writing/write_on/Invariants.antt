use Rattle.std.proofs.Common.{◌≡◌, ◌≤◌, ◌⊎◌, false}
use Rattle.r9_attend.specs.attend.Steps.{Writing}
use Rattle.r9_attend.proofs.attend.writing.write_on.Given as goal

abbrev pub invariant-loop : goal.invariant-loop
invariant-loop g l = record {
  writing : Writing g.T.Serves.server l.room.session l.fn.pass l.pass (g.O.Sink.held l.fn.output) (g.O.Sink.held l.output);
  flushed : (g.O.Sink.unflushed l.output ≡ false) ⊎ (l.output ≡ l.fn.output);
  counted : g.O.Sink.faults l.fn.output ≤ g.O.Sink.faults l.output;
}
