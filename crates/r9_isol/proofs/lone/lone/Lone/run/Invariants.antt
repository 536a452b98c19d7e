use Rattle.std.proofs.Common.{◌≡◌, ◌++◌, drop}
use Rattle.model_alone.specs.alone.Lone.{first_lone_world, lone_from}
use Rattle.r9_isol.specs.lone.LoneView.{world_of, IsLinkedWorld}
use Rattle.r9_isol.proofs.lone.lone.Lone.run.Given as goal

-- the replies to the steps that are left come behind those there are
abbrev pub invariant-loop-step : goal.invariant-loop-step
invariant-loop-step l =
    IsLinkedWorld (world_of l.lone)
    × (l.replies.items ++ lone_from (world_of l.lone) (drop l.step-index l.items) ≡ lone_from (first_lone_world l.opening) l.items)
