use Rattle.std.proofs.Common.{◌≡◌}
use Rattle.r9_serve.specs.alone.Answers.{replies_as}
use Rattle.r9_serve.proofs.alone.alone.answered.Given as goal

abbrev pub invariant-loop-bytes : goal.invariant-loop-bytes
invariant-loop-bytes l = l.log ≡ replies_as l.session l.yielded
