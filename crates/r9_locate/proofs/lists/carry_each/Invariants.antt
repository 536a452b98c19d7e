use Rattle.std.proofs.Common.{◌≡◌}
use Rattle.r9_locate.proofs.lists.Along.{carried_window}
use Rattle.r9_locate.proofs.lists.Ordered.{changed_to}
use Rattle.r9_locate.proofs.lists.carry_each.Given as goal

abbrev pub invariant-loop-k : goal.invariant-loop-k
invariant-loop-k l = l.windows ≡ changed_to (carried_window l.from l.to) l.k l.fn.windows
