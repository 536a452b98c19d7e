use Rattle.std.proofs.Common.{length}
use Rattle.r9_wctl.proofs.wctl.Gathering.{IsSoFar}
use Rattle.r9_wctl.proofs.wctl.gathered.gather.Given as goal

abbrev pub invariant-loop-rest : goal.invariant-loop-rest
invariant-loop-rest l = IsSoFar l.verb l.with_id l.gathered l.rest l.words

abbrev pub decreases-loop-rest : goal.decreases-loop-rest
decreases-loop-rest l = length l.rest
