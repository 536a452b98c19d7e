use Rattle.std.proofs.Common.{◌≡◌, ◌++◌, map, take, drop}
use Rattle.model_forest.specs.Stack.{moved_window}
use Rattle.r9_forest.proofs.moving.place_each.Given as goal

abbrev pub invariant-loop-k : goal.invariant-loop-k
invariant-loop-k l = l.windows ≡ map (moved_window l.i l.place) (take l.k l.fn.windows) ++ drop l.k l.fn.windows
