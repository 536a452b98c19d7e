use Rattle.std.proofs.Common.{◌≡◌, ◌+◌, ◌≤◌, length}
use Rattle.model_draw.specs.cost.Cost.{messages_cost}
use Rattle.model_draw.specs.looked.Rows.{rows_within}
use Rattle.r9_draw.specs.draw.World.{moment_of, world_of, writes_of}
use Rattle.r9_draw.proofs.draw.First.{AreDone}
use Rattle.r9_draw.proofs.draw.draw.Draw.write_first.Given as goal

abbrev pub invariant-messages : goal.invariant-messages
invariant-messages g l = AreDone l.client (world_of l.initial.self) l.initial.rest (world_of l.self) l.rest l.done × (l.done ≤ l.most) × (l.rows ≡ rows_within l.done l.client (world_of l.initial.self) l.initial.rest) × (l.pixels ≤ l.initial.pixels + messages_cost l.done l.client (world_of l.initial.self) l.initial.rest) × (moment_of l.self ≡ moment_of l.initial.self) × (writes_of l.self + l.initial.pixels ≡ writes_of l.initial.self + l.pixels)

abbrev pub decreases-messages : goal.decreases-messages
decreases-messages g l = length l.rest
