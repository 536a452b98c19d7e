use Rattle.std.proofs.Common.{◌≡◌, ◌≤◌, ◌+◌, length, max}
use Rattle.model_world.specs.Replay.{costs, costs_from, replay, replies, replies_from, world_from}
use Rattle.r9_hall.specs.hall.WorldView.{world_in}
use Rattle.r9_serve.specs.replay.Replayed.{MayRun}
use Rattle.r9_serve.specs.serve.Made.{most_tiles, most_tiles_from}
use Rattle.r9_serve.proofs.serve.generate.run_counted.Given as goal

abbrev pub invariant-events : goal.invariant-events
invariant-events g l = record {
  events : l.counts.events + length l.left ≡ length l.fn.left;
  replies : l.counts.replies + length (replies_from (world_in l.world) l.left) ≡ length (replies l.fn.opening l.fn.left);
  pixels : l.pixels + costs_from (world_in l.world) l.left ≤ costs l.fn.opening l.fn.left;
  world : world_from (world_in l.world) l.left ≡ replay l.fn.opening l.fn.left;
  most : max l.counts.most (most_tiles_from (world_in l.world) l.left) ≡ most_tiles l.fn.opening l.fn.left;
  may : MayRun l.world l.left;
}

abbrev pub decreases-events : goal.decreases-events
decreases-events g l = length l.left
