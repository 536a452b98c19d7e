use Rattle.std.proofs.Common.{◌≡◌, true, subst}
use Rattle.r9_event.specs.declared.event.rio.Order.{Order}
use Rattle.model_draw.specs.draw.Orders.{fits}
use Rattle.r9_device.specs.device.World.{world_of}
use Rattle.r9_draw.proofs.orders.Sizing.{display-fits}
use Rattle.r9_draw.proofs.orders.orders.obey.Goals as goal

pub unreachable-requires : goal.unreachable-requires
unreachable-requires g c = c.requires.other c.in-Replace.window c.in-Replace.host c.in-Replace.r c.in-Replace.name c.in-Replace.keep c.in-Replace.hidden c.in-Replace.is

pub resize_display-requires : goal.resize_display-requires
resize_display-requires g c =
    let w = world_of c.args.device.now in
    display-fits w c.in-Size.width c.in-Size.height (subst (λ (o : Order). fits w o ≡ true) c.in-Size.is c.requires.fits)
