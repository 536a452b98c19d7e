use Rattle.std.proofs.Common.{◌≡◌, ◌≤◌, ◌-◌, length}
use Rattle.r9_outside.specs.input.Taken.{HasTaken}
use Rattle.r9_outside.proofs.input.reading.read_up_to.Given as goal

abbrev pub invariant-taking : goal.invariant-taking
invariant-taking g l = record {
  taken : HasTaken (g.S.Source.left l.fn.input) l.text (g.S.Source.left l.input);
  short : length l.text ≤ l.limit;
  steady : g.S.Source.faults l.input ≡ g.S.Source.faults l.fn.input;
}

abbrev pub decreases-taking : goal.decreases-taking
decreases-taking g l = l.limit - length l.text
