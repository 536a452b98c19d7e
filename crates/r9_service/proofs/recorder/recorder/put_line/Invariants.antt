use Rattle.std.proofs.Common.{ℕ, List, Option, length, take, ◌++◌, ◌-◌, ◌≤◌}
use Rattle.r9_outside.specs.outside.Sink.{Appends}
use Rattle.r9_service.proofs.recorder.recorder.put_line.Given as goal

abbrev pub invariant-loop-part : goal.invariant-loop-part
invariant-loop-part g l = record {
  within : l.fn.part ≤ length l.line → l.part ≤ length l.line;
  put : l.fn.part ≤ length l.line → (before : Option (List ℕ)) (text : List ℕ) → Appends before (text ++ take l.fn.part l.line) (g.O.Sink.held l.fn.out) → Appends before (text ++ take l.part l.line) (g.O.Sink.held l.out);
  counted : g.O.Sink.faults l.fn.out ≤ g.O.Sink.faults l.out;
}

abbrev pub decreases-loop-part : goal.decreases-loop-part
decreases-loop-part g l = length l.line - l.part
