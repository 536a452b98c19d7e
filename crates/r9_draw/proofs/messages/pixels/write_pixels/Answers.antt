use Rattle.r9_layers.specs.Forest.{world}
use Rattle.r9_device.proofs.device.Kept.{kept-loaded}
use Rattle.r9_device.proofs.device.Rects.{inside-holds}
use Rattle.r9_draw.proofs.messages.pixels.write_pixels.Goals as goal

pub load-requires-clause-inside : goal.load-requires-clause-inside
load-requires-clause-inside g c = inside-holds c.args.r _ c.requires.part.some c.requires.part.inside

pub invariant_of-device-clause-kept : goal.invariant_of-device-clause-kept
invariant_of-device-clause-kept g c =
    kept-loaded c.load.result (world c.args.device.now.forest) (world c.load.new.self) c.args.device.now.book.book c.args.image.0 c.args.r _ c.args.device.now.kept c.requires.part.live c.load.ensures.ok c.load.ensures.err
