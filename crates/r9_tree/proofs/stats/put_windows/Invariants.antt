use Rattle.std.proofs.Common.{◌≡◌, ◌++◌, take}
use Rattle.std.specs.List.{flat_map, zip}
use Rattle.r9_tree.specs.Stats.{window_stat}
use Rattle.r9_tree.specs.View.{node_of}
use Rattle.r9_tree.proofs.stats.put_windows.Given as goal

abbrev pub invariant-loop-i : goal.invariant-loop-i
invariant-loop-i l = l.out ≡ l.initial.out ++ flat_map (window_stat (node_of l.node)) (take l.i (zip l.numbers l.serials))
