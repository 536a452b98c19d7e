use Rattle.std.proofs.Common.{◌≡◌, ◌++◌, drop}
use Rattle.r9_hall.specs.seen.View.{hosts_among}
use Rattle.r9_hall.proofs.seen.ending.push_hosts.Given as goal

-- what was added so far, and what is to be added
abbrev pub invariant-loop-host : goal.invariant-loop-host
invariant-loop-host l = l.uses ++ hosts_among l.before (drop l.host-index l.rios) ≡ l.fn.uses ++ hosts_among l.before l.rios
