use Rattle.r9_layers.specs.Forest.{world}
use Rattle.r9_device.proofs.device.Kept.{kept-cleared}
use Rattle.r9_draw.proofs.messages.image.clip.Goals as goal

pub invariant_of-device-clause-kept : goal.invariant_of-device-clause-kept
invariant_of-device-clause-kept c =
    kept-cleared (world c.args.device.now.forest) (world c.set.new.self) c.args.device.now.book.book c.args.image.0 c.args.repl c.args.clipr c.args.device.now.kept c.requires.live c.requires.near c.set.ensures.world
