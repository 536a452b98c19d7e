use Rattle.model_forest.specs.Steps.{outside}
use Rattle.r9_layers.specs.Forest.{world}
use Rattle.r9_draw.proofs.orders.Ordered.{hidden-lives, kept-hidden}
use Rattle.r9_draw.proofs.orders.Costs.{hidden-rect}
use Rattle.r9_draw.proofs.orders.window.hide_image.Goals as goal

pub invariant_of-device-clause-kept : goal.invariant_of-device-clause-kept
invariant_of-device-clause-kept g c =
    let before = c.args.device.now in
    kept-hidden c.origin.result (world before.forest) (world c.origin.new.self) before.book.book c.args.image.0 c.args.min outside before.kept c.requires.live c.keeps.ensures c.requires.near c.origin.ensures.moved c.origin.ensures.err

pub returns-clause-live : goal.returns-clause-live
returns-clause-live g c =
    hidden-lives c.origin.result (world c.args.device.now.forest) (world c.origin.new.self) c.args.image.0 c.args.min outside c.requires.live c.origin.ensures.moved c.origin.ensures.err

pub returns-clause-rect : goal.returns-clause-rect
returns-clause-rect g c = hidden-rect c.origin.result (world c.args.device.now.forest) (world c.origin.new.self) c.args.image.0 c.args.min outside c.origin.ensures.moved

pub returns-clause-still : goal.returns-clause-still
returns-clause-still g c = c.origin.ensures.still
