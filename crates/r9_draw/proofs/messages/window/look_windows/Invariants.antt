use Rattle.r9_device.specs.device.World.{world_of}
use Rattle.r9_draw.specs.messages.Restacking.{ids_of}
use Rattle.r9_draw.proofs.messages.Group.{ShowFirst}
use Rattle.r9_draw.proofs.messages.window.look_windows.Given as goal

abbrev pub invariant-loop-k : goal.invariant-loop-k
invariant-loop-k l = ShowFirst l.client (world_of l.device) (ids_of l.asked) l.k
