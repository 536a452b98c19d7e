use Rattle.std.proofs.Common.{length, take, ◌-◌, ◌≤◌}
use Rattle.r9_outside.specs.outside.Sink.{Appends}
use Rattle.r9_outside.proofs.outside.sink.put_all.Given as goal

abbrev pub invariant-loop-done : goal.invariant-loop-done
invariant-loop-done g l = record {
  within : l.done ≤ length l.piece;
  put : Appends (g.O.Sink.held l.fn.out) (take l.done l.piece) (g.O.Sink.held l.out);
  counted : g.O.Sink.faults l.fn.out ≤ g.O.Sink.faults l.out;
}

abbrev pub decreases-loop-done : goal.decreases-loop-done
decreases-loop-done g l = length l.piece - l.done
