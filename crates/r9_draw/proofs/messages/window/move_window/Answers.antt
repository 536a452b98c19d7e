use Rattle.model_draw.specs.draw.World.{at_number}
use Rattle.r9_layers.specs.Forest.{world}
use Rattle.r9_device.specs.device.World.{world_of}
use Rattle.r9_draw.proofs.messages.Screened.{corner-near, kept-origin}
use Rattle.r9_draw.proofs.messages.window.move_window.Goals as goal

pub invariant_of-device-clause-kept : goal.invariant_of-device-clause-kept
invariant_of-device-clause-kept g c =
    let before = c.args.device.now in
    kept-origin c.origin.result (world before.forest) (world c.origin.new.self) before.book.book c.args.image.0 c.args.rmin c.args.scr before.kept c.requires.live (λ p e. c.keeps.ensures.parents c.args.image.0 p c.requires.live e) c.requires.near
    c.origin.ensures.moved c.origin.ensures.err

pub origin-requires-clause-corner : goal.origin-requires-clause-corner
origin-requires-clause-corner g c = corner-near (at_number (world_of c.args.device.now) c.args.image.0).r c.args.rmin c.args.scr c.requires.near
