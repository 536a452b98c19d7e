use Rattle.std.proofs.Common.{drop}
use Rattle.r9_isol.specs.watch.Words.{watched_of}
use Rattle.r9_isol.proofs.watch.Judging.{Goes}
use Rattle.r9_isol.proofs.watch.reasons.judge.Given as goal

abbrev pub invariant-loop-used : goal.invariant-loop-used
invariant-loop-used l = Goes l.own (watched_of l.fn.seen) l.uses (watched_of l.seen) l.reason (drop l.used-index l.uses)
