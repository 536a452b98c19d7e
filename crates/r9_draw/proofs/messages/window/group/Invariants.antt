use Rattle.std.proofs.Common.{◌≡◌, map, take}
use Rattle.r9_device.specs.device.World.{world_of}
use Rattle.r9_draw.specs.messages.Restacking.{group_of}
use Rattle.r9_draw.proofs.messages.window.group.Given as goal

abbrev pub invariant-loop-k : goal.invariant-loop-k
invariant-loop-k l = map (λ i. i.0) l.group.items ≡ take l.k (group_of l.client (world_of l.device) l.asked)
