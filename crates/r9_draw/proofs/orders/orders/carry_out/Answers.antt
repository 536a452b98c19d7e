use Rattle.std.proofs.Common.{◌∙◌, refl, arith}
use Rattle.r9_device.specs.device.World.{world_of}
use Rattle.r9_draw.proofs.orders.Costs.{all-done, one-done, one-within}
use Rattle.r9_draw.proofs.orders.orders.carry_out.Goals as goal

pub loop-order-init : goal.loop-order-init
loop-order-init g c = record { done = refl; within = omega arith; same = refl; counted = refl }

pub loop-order-preserved : goal.loop-order-preserved
loop-order-preserved g c = record {
  done =
      one-done (world_of c.args.device.now) (world_of c.loop-order.device) (world_of c.carry_out_order.new.device) c.as_slice-order-items.result.now c.args.list.now c.loop-order.order-index _ c.order-item.result c.as_slice-order-items.ensures c.loop-order-test.true c.order-item.is
      c.in_ok-carry_out_order.ensures.ordered c.loop-order.invariant.done;
  within =
      one-within (world_of c.args.device.now) (world_of c.loop-order.device) (world_of c.carry_out_order.new.device) c.as_slice-order-items.result.now c.args.list.now c.loop-order.order-index _ c.order-item.result c.args.steps.now c.loop-order.steps c.carry_out_order.new.steps
      c.as_slice-order-items.ensures c.loop-order-test.true c.order-item.is c.in_ok-carry_out_order.ensures.ordered c.loop-order.invariant.within c.in_ok-carry_out_order.ensures.steps;
  same = c.carry_out_order.ensures.moment ∙ c.loop-order.invariant.same;
  counted = let counted = c.loop-order.invariant.counted in omega (arith, counted, c.carry_out_order.ensures.writes);
}

pub returns-clause-done : goal.returns-clause-done
returns-clause-done g c = all-done (world_of c.args.device.now) (world_of c.loop-order.device) c.as_slice-order-items.result.now c.args.list.now c.loop-order.order-index c.as_slice-order-items.ensures c.loop-order-test.false c.loop-order.invariant.done

pub returns-clause-steps : goal.returns-clause-steps
returns-clause-steps g c =
    let within = c.loop-order.invariant.within in
    omega (arith, within)
