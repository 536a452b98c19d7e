use Rattle.r9_layers.specs.Forest.{world}
use Rattle.r9_draw.proofs.orders.Ordered.{kept-bordered}
use Rattle.r9_draw.proofs.orders.window.frame.Goals as goal

pub invariant_of-device-clause-kept : goal.invariant_of-device-clause-kept
invariant_of-device-clause-kept g c =
    let before = c.args.device.now in
    kept-bordered (world before.forest) (world c.add_border.new.forest) before.book.book c.args.image.0 before.kept c.requires c.add_border.ensures.world
