use Rattle.std.proofs.Common.{◌≡◌, ◌+◌, ◌≤◌, drop}
use Rattle.model_draw.specs.cost.Cost.{orders_cost}
use Rattle.model_draw.specs.draw.Orders.{carried_out}
use Rattle.r9_device.specs.device.World.{moment_of, world_of, writes_of}
use Rattle.r9_draw.proofs.orders.orders.carry_out.Given as goal

abbrev pub invariant-loop-order : goal.invariant-loop-order
invariant-loop-order g l = record {
  done : carried_out (world_of l.device) (drop l.order-index l.fn.list) ≡ carried_out (world_of l.fn.device) l.fn.list;
  within : l.steps + orders_cost (world_of l.device) (drop l.order-index l.fn.list) ≤ l.fn.steps + orders_cost (world_of l.fn.device) l.fn.list;
  same : moment_of l.device ≡ moment_of l.fn.device;
  counted : writes_of l.device + l.fn.steps ≡ writes_of l.fn.device + l.steps;
}
