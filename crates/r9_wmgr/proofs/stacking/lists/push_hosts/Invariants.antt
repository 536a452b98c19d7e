use Rattle.std.proofs.Common.{◌≡◌, ◌++◌, map, take}
use Rattle.r9_wmgr.proofs.stacking.lists.push_hosts.Given as goal

abbrev pub invariant-loop-rio : goal.invariant-loop-rio
invariant-loop-rio l = l.hosts.items ≡ l.fn.hosts.items ++ map (λ rio. rio.host) (take l.rio-index l.rios)
