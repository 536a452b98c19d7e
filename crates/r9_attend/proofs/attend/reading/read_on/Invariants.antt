use Rattle.std.proofs.Common.{◌≡◌}
use Rattle.r9_attend.specs.attend.Steps.{Reading}
use Rattle.r9_attend.proofs.attend.reading.read_on.Given as goal

abbrev pub invariant-loop : goal.invariant-loop
invariant-loop g l = record {
  reading : Reading g.T.Serves.server l.room.session l.fn.pass l.pass l.framer (g.S.Source.left l.fn.input) (g.S.Source.left l.input);
  steady : g.S.Source.faults l.input ≡ g.S.Source.faults l.fn.input;
}
