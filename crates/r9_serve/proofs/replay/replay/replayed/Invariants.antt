use Rattle.std.proofs.Common.{◌≡◌, ◌++◌, length}
use Rattle.model_world.specs.Replay.{replay, replies, replies_from, world_from}
use Rattle.r9_hall.specs.hall.WorldView.{world_in}
use Rattle.r9_serve.specs.replay.Replayed.{MayRun}
use Rattle.r9_serve.proofs.replay.replay.replayed.Given as goal

abbrev pub invariant-events : goal.invariant-events
invariant-events g l = record {
  replies : l.log ++ replies_from (world_in l.world) l.left ≡ replies l.fn.opening l.fn.left;
  world : world_from (world_in l.world) l.left ≡ replay l.fn.opening l.fn.left;
  may : MayRun l.world l.left;
}

abbrev pub decreases-events : goal.decreases-events
decreases-events g l = length l.left
