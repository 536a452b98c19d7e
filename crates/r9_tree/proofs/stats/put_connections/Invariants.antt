use Rattle.std.proofs.Common.{◌≡◌, ◌++◌, take}
use Rattle.std.specs.List.{flat_map}
use Rattle.r9_tree.specs.Stats.{connection_stat}
use Rattle.r9_tree.specs.View.{node_of}
use Rattle.r9_tree.proofs.stats.put_connections.Given as goal

abbrev pub invariant-loop-n : goal.invariant-loop-n
invariant-loop-n l = l.out ≡ l.initial.out ++ flat_map (connection_stat (node_of l.node)) (take l.n-index l.connections)
