use Rattle.std.proofs.Common.{◌≡◌, ◌++◌, take}
use Rattle.std.specs.List.{flat_map}
use Rattle.r9_tree.specs.Stats.{kind_stat}
use Rattle.r9_tree.specs.View.{node_of, view_of}
use Rattle.r9_tree.proofs.stats.put_kinds.Given as goal

abbrev pub invariant-loop-kind : goal.invariant-loop-kind
invariant-loop-kind l = l.out ≡ l.initial.out ++ flat_map (kind_stat (view_of l.view) (node_of l.node)) (take l.kind-index l.kinds)
