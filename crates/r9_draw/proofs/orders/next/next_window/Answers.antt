use Rattle.std.proofs.Common.{◌^◌, sym, subst}
use Rattle.r9_geom.specs.Geometry.{IsRectNearBy}
use Rattle.r9_layers.specs.Forest.{world}
use Rattle.r9_draw.specs.orders.Ordering.{replacing_images}
use Rattle.r9_draw.proofs.orders.Costs.{bordered-within}
use Rattle.r9_draw.proofs.orders.Ordered.{next-comes}
use Rattle.r9_draw.proofs.orders.next.next_window.Goals as goal

pub add_border-requires-clause-live : goal.add_border-requires-clause-live
add_border-requires-clause-live g c =
    let new = next-comes (world c.args.forest.now) (world c.next_white.new.forest) c.in_ok-image.image.0 c.args.next.now c.args.stays c.in_ok-image.ensures.free c.requires.next c.keeps.ensures c.in_ok-image.ensures.made in
    new.live

pub add_border-requires-clause-near : goal.add_border-requires-clause-near
add_border-requires-clause-near g c =
    let new = next-comes (world c.args.forest.now) (world c.next_white.new.forest) c.in_ok-image.image.0 c.args.next.now c.args.stays c.in_ok-image.ensures.free c.requires.next c.keeps.ensures c.in_ok-image.ensures.made in
    subst (IsRectNearBy (2 ^ 32)) (sym new.rect) c.requires.next.near

pub returns-then-not-next-clause-steps : goal.returns-then-not-next-clause-steps
returns-then-not-next-clause-steps g c =
    let images = world c.args.forest.now in
    let next = c.args.next.now in
    let new = next-comes images (world c.next_white.new.forest) c.in_ok-image.image.0 next c.args.stays c.in_ok-image.ensures.free c.requires.next c.keeps.ensures c.in_ok-image.ensures.made in
    bordered-within next.keep next.r _ (replacing_images images next) c.args.steps.now c.next_white.new.steps c.add_border.new.steps c.if-not-next.true new.rect c.next_white.ensures.steps c.add_border.ensures.steps
