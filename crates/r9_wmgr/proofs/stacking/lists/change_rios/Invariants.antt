use Rattle.std.proofs.Common.{◌≡◌, ◌++◌, map, take, drop}
use Rattle.model_rio.specs.rio.Step.{changed}
use Rattle.r9_wmgr.specs.stacking.Changes.{by}
use Rattle.r9_wmgr.proofs.stacking.lists.change_rios.Given as goal

abbrev pub invariant-loop-rio : goal.invariant-loop-rio
invariant-loop-rio l =
    l.rio-items ≡ map (changed l.host (by l.change)) (take l.rio-index l.initial.rio-items) ++ drop l.rio-index l.initial.rio-items
