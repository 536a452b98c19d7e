use Rattle.std.proofs.Common.{◌≡◌, take}
use Rattle.r9_hall.proofs.seen.using.copy.Given as goal

abbrev pub invariant-loop-used : goal.invariant-loop-used
invariant-loop-used l = l.copy ≡ take l.used-index l.uses
