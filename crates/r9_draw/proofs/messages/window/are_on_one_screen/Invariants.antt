use Rattle.std.proofs.Common.{◌≡◌, ◌-◌, true, take, drop}
use Rattle.std.specs.List.{list_all}
use Rattle.model_draw.specs.draw.Moving.{is_on_screen}
use Rattle.r9_device.specs.device.World.{world_of}
use Rattle.r9_draw.specs.messages.Restacking.{group_of}
use Rattle.r9_draw.proofs.messages.window.are_on_one_screen.Given as goal

abbrev pub invariant-loop-k : goal.invariant-loop-k
invariant-loop-k l = list_all (is_on_screen (world_of l.device).book l.screen) (take (l.k - 1) (drop 1 (group_of l.client (world_of l.device) l.asked))) ≡ true
